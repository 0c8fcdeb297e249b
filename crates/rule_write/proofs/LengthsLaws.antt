-- How many bytes a rule's parts have.
use mathlib.Core.Path.{◌≡◌}
use mathlib.Core.List.{List}
use Prim.Native.Nat.{ℕ, ◌+◌, ◌*◌}
use lib.ListN.{length, get_or, length-append}
use Rattle.little.proofs.BytesLaws.{length_u32, length_i64}
use Rattle.little.proofs.JoinedLaws.{length-joined}
use Rattle.rule.specs.declared.Test.{Test}
use Rattle.rule.specs.declared.Assign.{Assign}
use Rattle.rule.specs.declared.Rule.{Rule}
use Rattle.rule.specs.Empty.{no_test, no_assign}
use Rattle.rule.proofs.FillLaws.{length-upto}
use Rattle.rule_write.specs.Pieces.{test_bytes, tests_bytes, assign_bytes, assigns_bytes, name_bytes, head_bytes, rule_bytes}

pub length-test : (x : Test) → length (test_bytes x) ≡ 12
unfolding test_bytes
length-test x = simp length_i64

pub length-tests : (xs : List Test) (t : ℕ) → length (tests_bytes xs t) ≡ 12 * t
unfolding tests_bytes
length-tests xs t = length-joined 12 t (λ j. test_bytes (get_or xs j no_test)) (λ j. length-test (get_or xs j no_test))

pub length-assign : (x : Assign) → length (assign_bytes x) ≡ 20
unfolding assign_bytes
length-assign x = simp (length-append, length_i64, length_u32)

pub length-assigns : (xs : List Assign) (a : ℕ) → length (assigns_bytes xs a) ≡ 20 * a
unfolding assigns_bytes
length-assigns xs a = length-joined 20 a (λ j. assign_bytes (get_or xs j no_assign)) (λ j. length-assign (get_or xs j no_assign))

pub length-name : (xs : List ℕ) (m : ℕ) → length (name_bytes xs m) ≡ m
unfolding name_bytes
length-name xs m = length-upto m (λ j. get_or xs j 0)

pub length-head : (r : Rule) → length (head_bytes r) ≡ 12
unfolding head_bytes
length-head r = simp (length-append, length_u32)

-- "Its length is 12 + 12t + 20a + m."
pub length-rule : (r : Rule) (t a m : ℕ) → length (rule_bytes r t a m) ≡ 12 + 12 * t + 20 * a + m
unfolding rule_bytes
length-rule r t a m =
    rw (length-append, length-append, length-append, length-head, length-tests, length-assigns, length-name)
