-- A slot that 7 does not refuse is all zero: "In memory, slots past a count are all zero."
use mathlib.Core.Path.{◌≡◌, refl, sym, ap, ◌∙◌}
use mathlib.Core.Bool.{Bool, false, not, ◌&&◌, false≢true, cond}
use mathlib.Core.List.{List, [], ◌∷◌}
use Prim.Native.Nat.{ℕ, ◌-◌, ◌<◌}
use native.Mathlib.Omega.{arith}
use lib.Dec.{ltb, eqb}
use lib.IntN.{ℤ, pos, negsuc}
use lib.ListN.{length, get_or, replicate}
use borrow.Author.Tests.{ltb-false, le-ltb, eqb-true, not-false}
use Rattle.mask.specs.Search.{some}
use Rattle.mask.proofs.SearchLaws.{or_false_both, none_of, some_false}
use Rattle.rule.specs.declared.Test.{Test}
use Rattle.rule.specs.declared.Assign.{Assign}
use Rattle.rule.specs.declared.Rule.{Rule}
use Rattle.rule.specs.Empty.{no_test, no_assign, no_rule}
use Rattle.rule.specs.Uses.{test_at, assign_at}
use Rattle.rule.specs.Numbers.{not_zero, not_zero_z, forms_bad, rule_slot_bad, test_form_bad, assign_form_bad, test_slot_bad, assign_slot_bad}
use Rattle.little.specs.Bytes.{u16_bytes, u32_bytes, u64_bytes, i64_bytes}
use Rattle.little.specs.Joined.{joined}
use Rattle.rule_write.specs.Pieces.{test_bytes, tests_bytes, assign_bytes, assigns_bytes, name_bytes, head_bytes, rule_bytes}
use Rattle.rule_write.specs.RuleWriteInner.{slot_bytes}
use Rattle.rule_write.specs.HeldRule.{HeldRule}
use Rattle.rule_write.proofs.HeldRuleLaws.{EmptyPast}
use Rattle.rule.proofs.FillLaws.{slots_are}

zero : (x : ℕ) → not_zero x ≡ false → x ≡ 0
zero x e = eqb-true x 0 (not-false (eqb x 0) e)

zero_z : (z : ℤ) → not_zero_z z ≡ false → z ≡ pos 0
zero_z (pos n) e = ap pos (let p = or_false_both (ltb n 0) (ltb 0 n) e in omega (arith, ltb-false 0 n p.1))
zero_z (negsuc k) e = absurd (false≢true (sym e))

empty-test : (x : Test) → test_slot_bad x ≡ false → x ≡ no_test
empty-test x e =
    let rest = not_zero x.comparison ∷ not_zero x.kind ∷ not_zero x.right ∷ not_zero_z x.constant ∷ [] in
    let p = none_of (not_zero x.left) rest e in
    λ i. record {
      left = zero x.left p.0 i;
      comparison = zero x.comparison p.1.0 i;
      kind = zero x.kind p.1.1.0 i;
      right = zero x.right p.1.1.1.0 i;
      constant = zero_z x.constant p.1.1.1.1 i;
    }

empty-assign : (x : Assign) → assign_slot_bad x ≡ false → x ≡ no_assign
empty-assign x e =
    let rest = not_zero x.operation ∷ not_zero x.a ∷ not_zero x.b ∷ not_zero_z x.k ∷ not_zero x.p ∷ not_zero x.q ∷ [] in
    let h = none_of (not_zero x.target) rest e in
    let g = h.1.1.1 in
    λ i. record {
      target = zero x.target h.0 i;
      operation = zero x.operation h.1.0 i;
      a = zero x.a h.1.1.0 i;
      b = zero x.b g.0 i;
      k = zero_z x.k g.1.0 i;
      p = zero x.p g.1.1.0 i;
      q = zero x.q g.1.1.1 i;
    }

-- past a count the slot's own test is what counts
uncounted : (counted form slot : Bool) → counted ≡ false → cond counted form slot ≡ false → slot ≡ false
uncounted counted form slot c e = sym (ap (λ (b : Bool). cond b form slot) c) ∙ e

pub past : (r : Rule) → forms_bad r ≡ false → EmptyPast r r.t r.a r.m
unfolding forms_bad
past r e =
    let F : ℕ → Bool = λ j. cond (ltb j r.t) (test_form_bad (test_at r j)) (test_slot_bad (test_at r j)) in
    let G : ℕ → Bool = λ j. cond (ltb j r.a) (assign_form_bad (assign_at r j)) (assign_slot_bad (assign_at r j)) in
    let H : ℕ → Bool = λ j. not (ltb j r.m) && not_zero (get_or r.name j 0) in
    let p = none_of (some 8 F) (some 8 G ∷ some 16 H ∷ []) e in
    record {
      test = λ j h l. empty-test (test_at r j)
          (uncounted (ltb j r.t) (test_form_bad (test_at r j)) (test_slot_bad (test_at r j)) (le-ltb j r.t h)
          (some_false 8 F p.0 j l));
      assign = λ j h l. empty-assign (assign_at r j)
          (uncounted (ltb j r.a) (assign_form_bad (assign_at r j)) (assign_slot_bad (assign_at r j)) (le-ltb j r.a h)
          (some_false 8 G p.1.0 j l));
      letter = λ j h l. zero (get_or r.name j 0)
          (sym (ap (λ (b : Bool). not b && not_zero (get_or r.name j 0)) (le-ltb j r.m h))
          ∙ some_false 16 H p.1.1 j l);
    }

-- N slots that are all empty
all-empty : {A : Type 0} (N : ℕ) (d : A) (xs : List A) → length xs ≡ N → ((j : ℕ) → j < N → get_or xs j d ≡ d) → xs ≡ replicate (N - 0) d
all-empty N d xs e f = sym (slots_are N d d (λ j. d) 0 xs (omega arith) e (λ j l. absurd (omega arith)) (λ j h l. f j l))

-- a rule slot past n is all zero
pub empty-rule : (r : Rule) → HeldRule r → rule_slot_bad r ≡ false → r ≡ no_rule
unfolding rule_slot_bad
empty-rule r held e =
    let rest = not_zero r.precedes ∷ not_zero r.t ∷ not_zero r.a ∷ not_zero r.m ∷ not_zero r.zero ∷ forms_bad r ∷ [] in
    let h = none_of (not_zero r.watch) rest e in
    let g = h.1.1 in
    let t = zero r.t g.0 in
    let a = zero r.a g.1.0 in
    let m = zero r.m g.1.1.0 in
    let p = past r g.1.1.1.1 in
    λ i. record {
      watch = zero r.watch h.0 i;
      precedes = zero r.precedes h.1.0 i;
      t = t i;
      a = a i;
      m = m i;
      zero = zero r.zero g.1.1.1.0 i;
      tests = all-empty 8 no_test r.tests held.tests (λ j l. p.test j (omega arith) l) i;
      assigns = all-empty 8 no_assign r.assigns held.assigns (λ j l. p.assign j (omega arith) l) i;
      name = all-empty 16 0 r.name held.name (λ j l. p.letter j (omega arith) l) i;
    }

-- an empty slot is all zeros
pub zero-slot : slot_bytes no_rule ≡ replicate 284 0
unfolding joined rule_bytes head_bytes tests_bytes test_bytes assigns_bytes assign_bytes name_bytes u16_bytes u32_bytes u64_bytes i64_bytes
zero-slot = refl
