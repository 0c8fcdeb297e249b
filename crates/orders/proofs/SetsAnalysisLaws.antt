-- The paper's own analysis, from the sets of cells: with weights it is an analysis as Bodies asks for.
use Rattle.std.specs.Prelude.{◌≡◌, ◌≢◌, ◌&&◌, ◌||◌, not, ℕ, ◌<◌, eqb}
use Rattle.std.proofs.Common.{sym, eqb-true, eq-eqb}
use Rattle.std.proofs.Math.Logic.{⊎_elim}
use Rattle.std.proofs.Math.Bool.{So, and-eq-true_iff, or_comm}
use Rattle.orders.proofs.FiniteLaws.{any_intro, or_cases, or_left, or_right, not-elim, both_ways}
use Rattle.orders.specs.System.{Weighs}
use Rattle.orders.specs.Bodies.{Bodies, Analysis}
use Rattle.orders.specs.Sets.{may_trigger, clashes, commute}

module _ (k : ℕ) (B : Bodies k) where
  open B use {watches, reads, writes}

  pub may_trigger_intro : (r s x : ℕ) → x < k → So (writes r x) → So (watches s x) → So (may_trigger k B r s)
  unfolding may_trigger
  may_trigger_intro r s x lx w i =
      any_intro (λ x. writes r x && watches s x) k x lx ((and-eq-true_iff (writes r x) (watches s x)).1 (w, i))

  pub clashes_intro : (r s x : ℕ) → x < k → So (writes r x) → So (reads s x || writes s x) → So (clashes k B r s)
  unfolding clashes
  clashes_intro r s x lx w i =
      any_intro (λ x. writes r x && (reads s x || writes s x)) k x lx
      ((and-eq-true_iff (writes r x) (reads s x || writes s x)).1 (w, i))

  -- two different rules that commute neither trigger nor clash
  commute-elim : (r s : ℕ) → r ≢ s → So (commute k B r s)
      → So (not (may_trigger k B r s || may_trigger k B s r)) × So (not (clashes k B r s || clashes k B s r))
  unfolding commute
  commute-elim r s ne c =
      ⊎_elim (λ e. absurd (ne (eqb-true r s e))) (and-eq-true_iff _ _).0 (or_cases (eqb r s) _ c)

  pub commute_no_trigger : (r s : ℕ) → r ≢ s → So (commute k B r s) → So (may_trigger k B r s) → ⊥
  commute_no_trigger r s ne c t =
      not-elim (may_trigger k B r s || may_trigger k B s r) (commute-elim r s ne c).0
      (or_left (may_trigger k B r s) (may_trigger k B s r) t)

  pub commute_no_clash : (r s : ℕ) → r ≢ s → So (commute k B r s) → So (clashes k B r s) → ⊥
  commute_no_clash r s ne c t =
      not-elim (clashes k B r s || clashes k B s r) (commute-elim r s ne c).1 (or_left (clashes k B r s) (clashes k B s r) t)

  eqb-sym : (r s : ℕ) → eqb r s ≡ eqb s r
  eqb-sym r s =
      both_ways (eqb r s) (eqb s r) (λ e. eq-eqb s r (sym (eqb-true r s e)))
      (λ e. eq-eqb r s (sym (eqb-true s r e)))

  pub commute_symmetric : (r s : ℕ) → So (commute k B r s) → So (commute k B s r)
  unfolding commute
  commute_symmetric r s c =
      rw (eqb-sym s r, or_comm (may_trigger k B s r) (may_trigger k B r s), or_comm (clashes k B s r) (clashes k B r s)) c

-- ── with weights this is an analysis ──
module _ (k : ℕ) (B : Bodies k) (weight : ℕ → ℕ) where
  open B use {n, reads, writes}

  abbrev pub sets_analysis : Weighs n (may_trigger k B) weight → Analysis k B
  sets_analysis weighs =
      record {
        may_trigger = may_trigger k B;
        commute = commute k B;
        weight = weight;
        triggers = λ r s x lr ls lx w i. may_trigger_intro k B r s x lx w i;
        weighs = weighs;
        commute_symmetric = λ r s lr ls c. commute_symmetric k B r s c;
        commute-quiet = λ r s lr ls ne c t. commute_no_trigger k B r s ne c t;
        commute-reads = λ r s x lr ls lx ne c w i.
            commute_no_clash k B r s ne c (clashes_intro k B r s x lx w (or_left (reads s x) (writes s x) i));
        commute-writes = λ r s x lr ls lx ne c w i.
            commute_no_clash k B r s ne c (clashes_intro k B r s x lx w (or_right (reads s x) (writes s x) i));
      }
