-- What a rule watches, reads and writes, and which fields and cells a code uses.
use Rattle.std.specs.Prelude.{Bool, ◌&&◌, ◌||◌, ℕ, leb, eqb, get_or}
use Rattle.mask.specs.Search.{some}
use Rattle.mask.specs.Mask.{has}
use Rattle.rule.specs.declared.Test.{Test}
use Rattle.rule.specs.declared.Assign.{Assign}
use Rattle.rule.specs.declared.Rule.{Rule}
use Rattle.rule.specs.Empty.{no_test, no_assign}

-- "right kind (0 constant, 1 cell), right cell, constant"
abbrev pub uses_right : Test → Bool
uses_right x = eqb x.kind 1

-- "Operations: 0 gives K; 1 gives A + K; 2 gives A + B; 3 gives A - B; 4 gives A x p / q": what the operation with a code uses; "an
-- unknown code uses none of them"
abbrev pub k_used : ℕ → Bool
k_used code = leb code 1

abbrev pub a_used : ℕ → Bool
a_used code = leb 1 code && leb code 4

abbrev pub b_used : ℕ → Bool
b_used code = eqb code 2 || eqb code 3

-- p and q
abbrev pub p_used : ℕ → Bool
p_used code = eqb code 4

abbrev pub uses_k : Assign → Bool
uses_k x = k_used x.operation

abbrev pub uses_a : Assign → Bool
uses_a x = a_used x.operation

abbrev pub uses_b : Assign → Bool
uses_b x = b_used x.operation

abbrev pub uses_p : Assign → Bool
uses_p x = p_used x.operation

-- the rule's test j and assignment j
abbrev pub test_at : Rule → ℕ → Test
test_at r j = get_or r.tests j no_test

abbrev pub assign_at : Rule → ℕ → Assign
assign_at r j = get_or r.assigns j no_assign

-- "each rule that watches a cell": the watch mask names it
abbrev pub watches : Rule → ℕ → Bool
watches r c = has r.watch c

-- "Reads: all cells used in tests and on right sides."
abbrev pub test_reads : Test → ℕ → Bool
test_reads x c = eqb c x.left || (uses_right x && eqb c x.right)

abbrev pub side_reads : Assign → ℕ → Bool
side_reads x c = (uses_a x && eqb c x.a) || (uses_b x && eqb c x.b)

unfoldable pub reads : Rule → ℕ → Bool
reads r c = some r.t (λ j. test_reads (test_at r j) c) || some r.a (λ j. side_reads (assign_at r j) c)

-- "Writes: all targets."
unfoldable pub writes : Rule → ℕ → Bool
writes r c = some r.a (λ j. eqb c (assign_at r j).target)
