-- A rule to which no number applies can be stepped.
use mathlib.Core.Path.{◌≡◌}
use mathlib.Core.Bool.{Bool, true, false, not, ◌&&◌, ◌||◌, cond}
use mathlib.Core.List.{List}
use Prim.Native.Nat.{ℕ, ◌≤◌, ◌<◌}
use native.Mathlib.Nat.{le_trans}
use native.Mathlib.Omega.{arith}
use lib.Dec.{ltb}
use lib.ListN.{get_or}
use borrow.Author.Tests.{lt-ltb, eq-eqb}
use Rattle.std.proofs.lemmas.Bool.Decides.{nat_tests}
use Rattle.mask.specs.Search.{some}
use Rattle.mask.proofs.SearchLaws.{some_false, or_false_both}
use Rattle.rule.specs.declared.Assign.{Assign}
use Rattle.rule.specs.declared.Rule.{Rule}
use Rattle.rule.specs.Uses.{uses_k, uses_a, uses_b, uses_p, test_at, assign_at}
use Rattle.rule.specs.Numbers.{out_of_range, not_zero, not_zero_z, assign_form_bad, forms_bad, test_form_bad, test_slot_bad, assign_slot_bad}
use Rattle.rule.proofs.NumbersLaws.{Clean, counted}
use Rattle.rule.specs.RuleInner.{Counted}
use Rattle.rule.proofs.CellsBelowLaws.{targets-below}
use Rattle.rule_sums.specs.RuleSumsInner.{InBounds}
use Rattle.rule_act.specs.RuleActInner.{Steppable}

-- ---- 7: the constants are in bounds

-- the third, the sixth and the seventh test
tests_false : (a b c d e f g : Bool) → (a || b || c || d || e || f || g) ≡ false
    → (c ≡ false) × (f ≡ false) × (g ≡ false)
tests_false a b c d e f g z = (grind arith, grind arith, grind arith)

factor : (p q : ℕ) (uses : Bool) → (not uses && (not_zero p || not_zero q)) ≡ false
    → (uses && (ltb 1000000 p || ltb q 1 || ltb 1000000 q)) ≡ false → (p ≤ 1000000) × (uses ≡ true → 1 ≤ q)
factor p q uses f g = (grind (arith, nat_tests), λ e. grind (arith, nat_tests))

bounded : (x : Assign) → assign_form_bad x ≡ false → InBounds x
bounded x f =
    let u = tests_false (ltb 4 x.operation) (not (uses_k x) && not_zero_z x.k) (out_of_range x.k)
    (not (uses_a x) && not_zero x.a) (not (uses_b x) && not_zero x.b)
    (not (uses_p x) && (not_zero x.p || not_zero x.q))
    (uses_p x && (ltb 1000000 x.p || ltb x.q 1 || ltb 1000000 x.q)) f in
    let v = factor x.p x.q (uses_p x) u.1 u.2 in
    record { constant = u.0; times = v.0; over = λ e. v.1 (eq-eqb x.operation 4 e) }

-- slot j of those counted
counted-slot : (c f s : Bool) → cond c f s ≡ false → c ≡ true → f ≡ false
counted-slot c f s e h = grind arith

forms_in_lem : (r : Rule) → forms_bad r ≡ false → (j : ℕ) → j < 8 → j < r.a → assign_form_bad (assign_at r j) ≡ false
unfolding forms_bad
forms_in_lem r f j l m =
    let tests = some 8 (λ j. cond (ltb j r.t) (test_form_bad (test_at r j)) (test_slot_bad (test_at r j))) in
    let assigns : ℕ → Bool = λ j. cond (ltb j r.a) (assign_form_bad (assign_at r j))
    (assign_slot_bad (assign_at r j)) in
    let u = or_false_both (tests || some 8 assigns)
    (some 16 (λ j. not (ltb j r.m) && not_zero (get_or r.name j 0))) f in
    counted-slot (ltb j r.a) (assign_form_bad (assign_at r j)) (assign_slot_bad (assign_at r j))
    (some_false 8 assigns (or_false_both tests (some 8 assigns) u.0).1 j l)
    (lt-ltb j r.a m)

-- ---- a rule with no number can be stepped

pub steppable : (n k : ℕ) (rules : List Rule) (i : ℕ) (r : Rule) → k ≤ 32 → Clean n k rules i r → Steppable r
steppable n k rules i r l h =
    let c : Counted r = counted r h.counts in
    record {
      tests = c.tests;
      assigns = c.assigns;
      bounded = λ j m. bounded (assign_at r j) (forms_in_lem r h.forms j (le_trans m c.assigns) m);
      targets = λ j m. le_trans (targets-below n k r h.cells j m) l;
      apart = h.targets;
    }
