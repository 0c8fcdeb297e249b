-- The bytes of a rule's parts.
use Rattle.std.specs.Prelude.{List, [], ◌∷◌, ◌++◌, ℕ, get_or}
use Rattle.little.specs.Bytes.{u32_bytes, i64_bytes}
use Rattle.little.specs.Joined.{joined}
use Rattle.rule.specs.declared.Test.{Test}
use Rattle.rule.specs.declared.Assign.{Assign}
use Rattle.rule.specs.declared.Rule.{Rule}
use Rattle.rule.specs.Empty.{no_test, no_assign}
use Rattle.rule.specs.Fill.{upto}

-- "Test, 12 bytes: left cell, comparison .., right kind .., right cell, constant."
unfoldable pub test_bytes : Test → List ℕ
test_bytes x = (x.left ∷ x.comparison ∷ x.kind ∷ x.right ∷ []) ++ i64_bytes x.constant

-- the first t tests, one after another
unfoldable pub tests_bytes : List Test → ℕ → List ℕ
tests_bytes xs t = joined t (λ j. test_bytes (get_or xs j no_test))

-- "Assignment, 20 bytes: target, operation, cell A, cell B, constant K (8), p (4), q (4)."
unfoldable pub assign_bytes : Assign → List ℕ
assign_bytes x = (x.target ∷ x.operation ∷ x.a ∷ x.b ∷ []) ++ i64_bytes x.k ++ u32_bytes x.p ++ u32_bytes x.q

-- the first a assignments, one after another
unfoldable pub assigns_bytes : List Assign → ℕ → List ℕ
assigns_bytes xs a = joined a (λ j. assign_bytes (get_or xs j no_assign))

-- the first m letters
unfoldable pub name_bytes : List ℕ → ℕ → List ℕ
name_bytes xs m = upto m (λ j. get_or xs j 0)

-- "watch mask (4 bytes, cells), precedes mask (4, rules), number of tests t .., number of assignments a ..,
-- name length m .., a zero byte"
unfoldable pub head_bytes : Rule → List ℕ
head_bytes r = u32_bytes r.watch ++ u32_bytes r.precedes ++ (r.t ∷ r.a ∷ r.m ∷ r.zero ∷ [])

-- "then the tests, the assignments, the name": a rule with room for t tests, a assignments and m letters
unfoldable pub rule_bytes : Rule → ℕ → ℕ → ℕ → List ℕ
rule_bytes r t a m = head_bytes r ++ tests_bytes r.tests t ++ assigns_bytes r.assigns a ++ name_bytes r.name m

-- a body, with room by its own counts: "Its length is 12 + 12t + 20a + m."
abbrev pub body_bytes : Rule → List ℕ
body_bytes r = rule_bytes r r.t r.a r.m
