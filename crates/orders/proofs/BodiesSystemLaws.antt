-- The machine with cells is a system: every law of System, from the facts on bodies, priorities and an
-- analysis.
use Rattle.std.specs.Prelude.{◌≡◌, refl, ◌⊎◌, ◌≢◌, Bool, true, ℕ, ◌<◌}
use Rattle.std.proofs.Common.{sym, ◌∙◌, ap, subst, inl, inr}
use Rattle.std.proofs.Math.Logic.{Ne-symm, Equivalence}
use Rattle.std.proofs.Math.Bool.{So, Bool-discrete}
use Rattle.std.proofs.Math.Decide.{ℕ_discrete}
use Rattle.orders.specs.Overwritten.{put}
use Rattle.orders.proofs.OverwrittenLaws.{put_same, put_other}
use Rattle.orders.specs.System.{System}
use Rattle.orders.proofs.SystemLaws.{weighs⇒no_self_trigger}
use Rattle.orders.specs.Cells.{Cells, EqualOn}
use Rattle.orders.proofs.CellsLaws.{equal_on_sym}
use Rattle.orders.specs.Kept.{Memory}
use Rattle.orders.specs.Bodies.{Bodies, State, BodyFacts, Priorities, Analysis, waits, step, Same, runner}
use Rattle.orders.proofs.BodiesCellsLaws.{quiet-on}
use Rattle.orders.proofs.BodiesSwapLaws.{kept-own, kept-other, step-swap}

module _ (k : ℕ) (E : Memory k) (B : Bodies k) where
  open E use {rest, alike, alike_is, wakeful-alike, rest-alike, rest_sleeps}
  open E use {moved, moved-alike, moved-still}
  open B use {n, watches, reads, body, mark}

  -- ── states that are the same ──
  pub same-is : Equivalence (Same k E B)
  same-is =
      record {
        refl = λ S.
            record {
              cells_same = λ x l. refl;
              marks-same = λ r l. refl;
              kept-alike = λ r l. (alike_is (watches r)).refl (S.kept r);
            };
        symm = λ S T q.
            record {
              cells_same = λ x l. sym (q.cells_same x l);
              marks-same = λ r l. sym (q.marks-same r l);
              kept-alike = λ r l. (alike_is (watches r)).symm _ _ (q.kept-alike r l);
            };
        trans = λ S T U q p.
            record {
              cells_same = λ x l. q.cells_same x l ∙ p.cells_same x l;
              marks-same = λ r l. q.marks-same r l ∙ p.marks-same r l;
              kept-alike = λ r l. (alike_is (watches r)).trans _ _ _ (q.kept-alike r l) (p.kept-alike r l);
            };
      }

  module _ (F : BodyFacts k B) where
    pub step_same : (r : ℕ) (S T : State k E B) → r < n → Same k E B S T
        → Same k E B (step k E B r S) (step k E B r T)
    step_same r S T lr q =
        record {
          cells_same = cells-go;
          marks-same = λ t l. marks-go t l (ℕ_discrete t r);
          kept-alike = λ t l.
              moved-alike (watches t) _ _ _ _ _ _ (kept-go t l (ℕ_discrete t r)) (on (watches t))
              (λ x lx i. cells-go x lx);
        }
      where
        on : (a : ℕ → Bool) → EqualOn k a S.cells T.cells
        on a x lx i = q.cells_same x lx

        cells-go : (x : ℕ) → x < k → body r S.cells x ≡ body r T.cells x
        cells-go x lx = F.local r S.cells T.cells x lr lx (on (reads r)) (q.cells_same x lx)

        mark-go : mark r S.cells (S.marks r) ≡ mark r T.cells (T.marks r)
        mark-go =
            F.mark-local r S.cells T.cells (S.marks r) lr (on (reads r))
            ∙ ap (mark r T.cells) (q.marks-same r lr)

        marks-go : (t : ℕ) → t < n → Dec (t ≡ r) → (step k E B r S).marks t ≡ (step k E B r T).marks t
        marks-go t l (yes e) = put_same S.marks r _ t e ∙ mark-go ∙ sym (put_same T.marks r _ t e)
        marks-go t l (no e) =
            put_other S.marks r _ t e ∙ q.marks-same t l ∙ sym (put_other T.marks r _ t e)

        kept-go : (t : ℕ) → t < n → Dec (t ≡ r)
            → alike (watches t) (put S.kept r (rest S.cells) t) (put T.kept r (rest T.cells) t)
        kept-go t l (yes e) =
            rw (put_same S.kept r (rest S.cells) t e, put_same T.kept r (rest T.cells) t e)
            (rest-alike (watches t) _ _ (on (watches t)))
        kept-go t l (no e) =
            rw (put_other S.kept r (rest S.cells) t e, put_other T.kept r (rest T.cells) t e)
            (q.kept-alike t l)

    -- ── who waits ──
    module _ (N : Analysis k B) where
      open N use {may_trigger}

      -- a rule that r may not trigger keeps what it kept
      still : (r s : ℕ) (S : State k E B) → r < n → s < n → r ≢ s → (So (may_trigger r s) → ⊥)
          → alike (watches s) ((step k E B r S).kept s) (S.kept s)
      still r s S lr ls ne t =
          rw (kept-other k E B r s S (Ne-symm ne))
          (moved-still (watches s) (S.kept s) S.cells (body r S.cells)
          (quiet-on k B F N r s S.cells lr ls t))

      pub step_keeps : (r s : ℕ) (S : State k E B) → r < n → s < n → r ≢ s → (So (may_trigger r s) → ⊥)
          → So (waits k E B S s) → So (waits k E B (step k E B r S) s)
      step_keeps r s S lr ls ne t w =
          wakeful-alike (watches s) (S.kept s) ((step k E B r S).kept s) S.cells (body r S.cells)
          ((alike_is (watches s)).symm _ _ (still r s S lr ls ne t))
          (equal_on_sym k (watches s) _ _ (quiet-on k B F N r s S.cells lr ls t)) w

      pub step-wakes : (r s : ℕ) (S : State k E B) → r < n → s < n → So (waits k E B (step k E B r S) s)
          → ((r ≢ s) × So (waits k E B S s)) ⊎ So (may_trigger r s)
      step-wakes r s S lr ls w = go (Bool-discrete (may_trigger r s) true) (ℕ_discrete s r)
        where
          c : Cells
          c = S.cells

          own : s ≡ r → alike (watches s) (moved (watches s) (rest c) c (body r c)) (rest c)
              → alike (watches s) ((step k E B r S).kept s) (rest c)
          own e m = rw (kept-own k E B r s S e) m

          go : Dec (So (may_trigger r s)) → Dec (s ≡ r)
              → ((r ≢ s) × So (waits k E B S s)) ⊎ So (may_trigger r s)
          go (yes t) d = inr t
          go (no t) (yes e) =
              let q = quiet-on k B F N r s c lr ls t in
              let m = own e (moved-still (watches s) (rest c) c (body r c) q) in
              let w' = wakeful-alike (watches s) ((step k E B r S).kept s) (rest c) (body r c) c m q w in
              absurd (rest_sleeps (watches s) c w')
          go (no t) (no e) =
              let q = quiet-on k B F N r s c lr ls t in
              let ne : r ≢ s = Ne-symm e in
              let m = still r s S lr ls ne t in
              inl (ne, wakeful-alike (watches s) ((step k E B r S).kept s) (S.kept s) (body r c) c m q w)

      -- neither do two rules that commute trigger one another, nor a rule itself
      pub commuting-quiet : (r s : ℕ) → r < n → s < n → So (N.commute r s) → So (may_trigger r s) → ⊥
      commuting-quiet r s lr ls c t = go (ℕ_discrete r s)
        where
          go : Dec (r ≡ s) → ⊥
          go (yes e) =
              weighs⇒no_self_trigger n may_trigger N.weight N.weighs r lr
              (subst (λ z. So (may_trigger r z)) (sym e) t)
          go (no ne) = N.commute-quiet r s lr ls ne c t

      abbrev pub system : Priorities k B → System
      system P =
          record {
            runner = runner k E B P;
            may_trigger = N.may_trigger;
            commute = N.commute;
            weight = N.weight;
            same = Same k E B;
            same-is = same-is;
            same-waits = λ S T q r l w.
                wakeful-alike (watches r) (S.kept r) (T.kept r) S.cells T.cells (q.kept-alike r l)
                (λ x lx i. q.cells_same x lx) w;
            same_step = λ S T q r l w. step_same r S T l q;
            weighs = N.weighs;
            commute_symmetric = N.commute_symmetric;
            commute-quiet = commuting-quiet;
            keeps = λ r s S lr ls w ne t x. step_keeps r s S lr ls ne t x;
            wakes = λ r s S lr ls w x. step-wakes r s S lr ls x;
            swaps = λ r s S lr ls ne c x y.
                step-swap k E B F N r s (record { r_below = lr; s-below = ls; differ = ne; commutes = c }) S;
          }
