-- Any bytes with room for a rule hold one: its numbers fit their types, its arrays have their slots.
use mathlib.Core.Path.{◌≡◌, refl}
use mathlib.Core.Bool.{Bool, true, false, cond}
use mathlib.Core.List.{List}
use Prim.Native.Nat.{ℕ, ◌+◌, ◌-◌, ◌*◌, ◌^◌, ◌≤◌, ◌<◌}
use native.Mathlib.Omega.{arith}
use lib.Dec.{ltb}
use lib.IntN.{pos, negsuc}
use lib.ListN.{length}
use mir.Syntax.{w64}
use mir.Val.{SFits}
use borrow.Author.Tests.{ltb-true, ltb-false}
use Rattle.little.specs.Little.{u64_at, signed}
use Rattle.little.specs.EachByte.{Bytes}
use Rattle.little.proofs.BytesBackLaws.{u32_stands, u64_stands}
use Rattle.rule.specs.declared.Test.{Test}
use Rattle.rule.specs.declared.Assign.{Assign}
use Rattle.rule.specs.Empty.{no_test, no_assign, no_rule}
use Rattle.rule.proofs.FillLaws.{length-filled, each-filled}
use Rattle.rule_read.specs.Parts.{test_in, assign_in, rule_of}
use Rattle.rule_read.specs.RuleReadInner.{Room}
use Rattle.rule_read.proofs.NameReadLaws.{name-long}
use Rattle.rule_write.specs.HeldRule.{HeldAssign, HeldRule}

signed-fits : (x : ℕ) → x < 2 ^ 64 → SFits w64 (signed x)
signed-fits x h = pick (ltb x (2 ^ 63)) refl
  where
    pick : (b : Bool) → ltb x (2 ^ 63) ≡ b → SFits w64 (cond b (pos x) (negsuc (2 ^ 64 - 1 - x)))
    pick true e = record { sfits = ltb-true x (2 ^ 63) e }
    pick false e = record { sfits = omega (arith, ltb-false x (2 ^ 63) e) }

none-test : SFits w64 no_test.constant
none-test = record { sfits = omega arith }

none-assign : HeldAssign no_assign
none-assign = record { k = record { sfits = omega arith }; p = omega arith; q = omega arith }

pub none-held : HeldRule no_rule
none-held =
    record {
      watch = omega arith;
      precedes = omega arith;
      tests = refl;
      assigns = refl;
      name = refl;
      test = each-filled (λ (x : Test). SFits w64 x.constant) 8 no_test (λ j. no_test) 0 no_test none-test (λ j l. none-test);
      assign = each-filled HeldAssign 8 no_assign (λ j. no_assign) 0 no_assign none-assign (λ j l. none-assign);
    }

module _ (s : List ℕ) (b : Bytes s) where
  test-held : (i : ℕ) → i + 12 ≤ length s → SFits w64 (test_in s i).constant
  test-held i l = signed-fits (u64_at s (i + 4)) (u64_stands s b (i + 4) (omega arith)).small

  assign-held : (i : ℕ) → i + 20 ≤ length s → HeldAssign (assign_in s i)
  assign-held i l =
      record {
        k = signed-fits (u64_at s (i + 4)) (u64_stands s b (i + 4) (omega arith)).small;
        p = (u32_stands s b (i + 12) (omega arith)).small;
        q = (u32_stands s b (i + 16) (omega arith)).small;
      }

  pub rule-held : (i t a m : ℕ) → Room s i t a m → HeldRule (rule_of s i t a m)
  rule-held i t a m room =
      let l = room.inside in
      let test : ℕ → Test = λ j. test_in s (i + 12 + 12 * j) in
      let assign : ℕ → Assign = λ j. assign_in s (i + 12 + 12 * t + 20 * j) in
      record {
        watch = (u32_stands s b i (omega arith)).small;
        precedes = (u32_stands s b (i + 4) (omega arith)).small;
        tests = length-filled 8 no_test test t room.tests;
        assigns = length-filled 8 no_assign assign a room.assigns;
        name = name-long s (i + 12 + 12 * t + 20 * a) m room.letters;
        test =
            each-filled (λ (x : Test). SFits w64 x.constant) 8 no_test test t no_test none-test
            (λ j h. test-held (i + 12 + 12 * j) (omega arith));
        assign =
            each-filled HeldAssign 8 no_assign assign a no_assign none-assign
            (λ j h. assign-held (i + 12 + 12 * t + 20 * j) (omega arith));
      }
