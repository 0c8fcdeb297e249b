-- What is found out about a pair once R1 and R2 are masks: the lowest rule of R1 that is guilty, then the lowest of R2 that does not
-- commute with it.
use mathlib.Core.Path.{◌≡◌, refl, sym, ap, ap₂, ◌∙◌}
use mathlib.Core.Logic.{⊎_elim}
use mathlib.Core.Bool.{Bool, true, false, not, ◌&&◌, false≢true}
use mathlib.Core.List.{List}
use Prim.Native.Nat.{ℕ, ◌<◌, ◌≤◌, ◌^◌}
use native.Mathlib.Nat.{le_trans, lt_of_le_of_lt}
use lib.ListN.{get_or}
use borrow.Author.Tests.{not-false}
use Rattle.mask.proofs.SearchLaws.{Found, some_intro, some-elim, and_true_both, lt-or_ge}
use Rattle.mask.specs.Mask.{has, meet}
use Rattle.mask.specs.MaskInner.{lowest}
use Rattle.mask.proofs.BitsLaws.{has-lt}
use Rattle.mask.specs.Search.{some}
use Rattle.analysis_pairs.proofs.TurnedLaws.{mutual_met}
use Rattle.mask.proofs.MaskLaws.{lowest-is}
use Rattle.analysis_pairs.specs.Rules.{R1, R2, Passes, Culprits}
use Rattle.analysis_pairs.specs.AnalysisPairsInner.{Judged, edge, row_rules, Grew, Mutual}

-- whether r, a rule of a, does not commute with some rule of b
unfoldable pub guilty : List ℕ → ℕ → ℕ → ℕ → Bool
guilty clash a b r = has a r && meet (get_or clash r 0) b

-- the rules of a, cut down to those that some rule of b clashes with
pub guilty_met : {clash : List ℕ} → Mutual clash → (a b g p : ℕ) → ((r : ℕ) → has g r ≡ some 32 (λ x. has b x && edge clash x r))
    → ((r : ℕ) → has p r ≡ (has a r && has g r)) → (r : ℕ) → r < 32 → has p r ≡ guilty clash a b r
unfolding guilty
guilty_met m a b g p h q r l = q r ∙ ap (λ (x : Bool). has a r && x) (h r ∙ mutual_met m b r)

lowest-le : (m s : ℕ) → has m s ≡ true → lowest m ≤ s
lowest-le m s e =
    ⊎_elim (λ l. absurd (false≢true (sym ((lowest-is m).first s l) ∙ e))) (λ l. l) (lt-or_ge s (lowest m))

module _ {trig before : List ℕ} (clash : List ℕ) {i j a b : ℕ} (g : Grew trig before i j a b)
    (fa : a < 2 ^ 32) (fb : b < 2 ^ 32) (p : ℕ) (hp : (r : ℕ) → r < 32 → has p r ≡ guilty clash a b r) where
  -- one rule of R1 and one of R2 that do not commute: the first is guilty
  seen : (x y : ℕ) → R1 (row_rules trig before clash) i j x → R2 (row_rules trig before clash) i j y → edge clash x y ≡ true
      → (x < 32) × (has p x ≡ true)
  unfolding guilty meet
  seen x y gx gy e =
      let hx : has a x ≡ true = (g.first x).1 gx in
      let hy : has b y ≡ true = (g.second y).1 gy in
      let l : x < 32 = has-lt 32 x fa hx in (
        l,
        hp x l ∙ ap₂ ◌&&◌ hx
            (some_intro 32 (λ s. has (get_or clash x 0) s && has b s) y (has-lt 32 y fb hy) (ap₂ ◌&&◌ e hy)),
      )

  passes-by : 32 ≤ lowest p → Passes (row_rules trig before clash) i j
  passes-by l x y gx gy = pick (edge clash x y) refl
    where
      pick : (t : Bool) → edge clash x y ≡ t → not (edge clash x y) ≡ true
      pick true e =
          let w = seen x y gx gy e in
          absurd (false≢true (sym ((lowest-is p).first x (le_trans w.0 l)) ∙ w.1))
      pick false e = ap not e

  culprits-by : (q : ℕ) → lowest p < 32
      → ((s : ℕ) → s < 32 → has q s ≡ (has (get_or clash (lowest p) 0) s && has b s))
      → Culprits (row_rules trig before clash) i j (lowest p) (lowest q)
  unfolding guilty meet
  culprits-by q l hq =
      let x : ℕ = lowest p in
      let w : (has a x ≡ true) × (meet (get_or clash x 0) b ≡ true) =
      and_true_both (has a x) (meet (get_or clash x 0) b) (sym (hp x l) ∙ (lowest-is p).is l) in
      let f : Found 32 (λ s. has (get_or clash x 0) s && has b s) =
      some-elim 32 (λ s. has (get_or clash x 0) s && has b s) w.1 in
      let k : lowest q < 32 = lt_of_le_of_lt (lowest-le q f.at (hq f.at f.lt ∙ f.is)) f.lt in
      let v : (has (get_or clash x 0) (lowest q) ≡ true) × (has b (lowest q) ≡ true) =
      and_true_both (has (get_or clash x 0) (lowest q)) (has b (lowest q)) (sym (hq (lowest q) k) ∙ (lowest-is q).is k) in
      record {
        one = (g.first x).0 w.0;
        other = (g.second (lowest q)).0 v.1;
        clash = ap not v.0;
        lowest = λ y z gy gz e. lowest-le p y (seen y z gy gz (not-false (edge clash y z) e)).1;
        lowest-other = λ y gy e.
            let hy : has b y ≡ true = (g.second y).1 gy in
            lowest-le q y (hq y (has-lt 32 y fb hy) ∙ ap₂ ◌&&◌ (not-false (edge clash x y) e) hy);
      }

  pub judged-passing : (r : ℕ) → r ≡ lowest p → 32 ≤ r → Judged (row_rules trig before clash) i j false 0 0
  judged-passing r e l =
      record { passing = λ z. (passes-by (rw e at l), refl, refl); failing = λ z. absurd (false≢true z) }

  pub judged-failing : (r s q : ℕ) → r ≡ lowest p → r < 32
      → ((y : ℕ) → y < 32 → has q y ≡ (has (get_or clash r 0) y && has b y)) → s ≡ lowest q
      → Judged (row_rules trig before clash) i j true r s
  judged-failing r s q e l hq e' =
      record {
        passing = λ z. absurd (false≢true (sym z));
        failing = λ z. rw (e, e') (culprits-by q (rw e at l) (rw e at hq));
      }
