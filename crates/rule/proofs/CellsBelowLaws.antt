-- The cells that a rule uses are below k where 6 does not apply.
use mathlib.Core.Path.{◌≡◌, sym, ap, ◌∙◌, subst}
use mathlib.Core.Logic.{⊎_elim}
use mathlib.Core.Bool.{Bool, true, false, ◌&&◌, false≢true}
use mathlib.Core.List.{[], ◌∷◌}
use Prim.Native.Nat.{ℕ, ◌<◌}
use lib.Dec.{leb, eqb}
use borrow.Author.Tests.{leb-false, eqb-true}
use Rattle.mask.specs.Search.{some}
use Rattle.mask.specs.Mask.{has, beyond}
use Rattle.mask.proofs.SearchLaws.{Found, some-elim, some_false, or_false_both, or_true_cases, NoneOf, none_of}
use Rattle.rule.specs.declared.Test.{Test}
use Rattle.rule.specs.declared.Assign.{Assign}
use Rattle.rule.specs.declared.Rule.{Rule}
use Rattle.rule.specs.Uses.{watches, uses_right, uses_a, uses_b, test_at, assign_at, test_reads, side_reads, reads}
use Rattle.rule.specs.Numbers.{test_cell_bad, assign_cell_bad, cells_bad}

-- a used cell that is not k or more
below : (k y c : ℕ) (uses : Bool) → (uses && leb k y) ≡ false → (uses && eqb c y) ≡ true → c < k
below k y c true f e = subst (λ (z : ℕ). z < k) (sym (eqb-true c y e)) (leb-false k y f)
below k y c false f e = absurd (false≢true e)

test_below : (k : ℕ) (x : Test) (c : ℕ) → test_cell_bad k x ≡ false → test_reads x c ≡ true → c < k
test_below k x c f e =
    let p = or_false_both (leb k x.left) (uses_right x && leb k x.right) f in
    ⊎_elim (below k x.left c true p.0) (below k x.right c (uses_right x) p.1)
    (or_true_cases (eqb c x.left) (uses_right x && eqb c x.right) e)

module _ (k : ℕ) (x : Assign) (f : assign_cell_bad k x ≡ false) where
  abbrev cells : NoneOf (leb k x.target) ((uses_a x && leb k x.a) ∷ (uses_b x && leb k x.b) ∷ [])
  cells = none_of (leb k x.target) ((uses_a x && leb k x.a) ∷ (uses_b x && leb k x.b) ∷ []) f

  target_below : x.target < k
  target_below = leb-false k x.target cells.0

  side-below : (c : ℕ) → side_reads x c ≡ true → c < k
  side-below c e =
      ⊎_elim (below k x.a c (uses_a x) cells.1.0) (below k x.b c (uses_b x) cells.1.1)
      (or_true_cases (uses_a x && eqb c x.a) (uses_b x && eqb c x.b) e)

module _ (n k : ℕ) (r : Rule) (f : cells_bad n k r ≡ false) where
  abbrev tested : Bool
  tested = some r.t (λ j. test_cell_bad k (test_at r j))

  abbrev assigned : Bool
  assigned = some r.a (λ j. assign_cell_bad k (assign_at r j))

  parts : NoneOf (beyond r.watch k) (beyond r.precedes n ∷ tested ∷ assigned ∷ [])
  unfolding cells_bad
  parts = none_of (beyond r.watch k) (beyond r.precedes n ∷ tested ∷ assigned ∷ []) f

  tests_in : (j : ℕ) → j < r.t → test_cell_bad k (test_at r j) ≡ false
  tests_in = some_false r.t (λ j. test_cell_bad k (test_at r j)) parts.1.1.0

  assigns_in : (j : ℕ) → j < r.a → assign_cell_bad k (assign_at r j) ≡ false
  assigns_in = some_false r.a (λ j. assign_cell_bad k (assign_at r j)) parts.1.1.1

  pub watches-below : (c : ℕ) → c < 32 → watches r c ≡ true → c < k
  unfolding beyond
  watches-below c l e =
      leb-false k c
      (sym (ap (λ (b : Bool). b && leb k c) e) ∙ some_false 32 (λ i. has r.watch i && leb k i) parts.0 c l)

  pub targets-below : (j : ℕ) → j < r.a → (assign_at r j).target < k
  targets-below j l = target_below k (assign_at r j) (assigns_in j l)

  pub reads-below : (c : ℕ) → reads r c ≡ true → c < k
  unfolding reads
  reads-below c e =
      ⊎_elim
      (λ h.
      let w : Found r.t (λ j. test_reads (test_at r j) c) = some-elim r.t (λ j. test_reads (test_at r j) c) h in
      test_below k (test_at r w.at) c (tests_in w.at w.lt) w.is)
      (λ h.
      let w : Found r.a (λ j. side_reads (assign_at r j) c) = some-elim r.a (λ j. side_reads (assign_at r j) c) h in
      side-below k (assign_at r w.at) (assigns_in w.at w.lt) c w.is)
      (or_true_cases (some r.t (λ j. test_reads (test_at r j) c)) (some r.a (λ j. side_reads (assign_at r j) c)) e)
