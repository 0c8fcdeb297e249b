-- What stands in bytes: a test, an assignment, a name, a rule.
use Rattle.std.specs.Prelude.{List, ℕ, ◌+◌, ◌*◌}
use Rattle.little.specs.Little.{byte_at, u32_at, i64_at}
use Rattle.rule.specs.declared.Test.{Test}
use Rattle.rule.specs.declared.Assign.{Assign}
use Rattle.rule.specs.declared.Rule.{Rule}
use Rattle.rule.specs.Fill.{filled}
use Rattle.rule.specs.Empty.{no_test, no_assign}

-- "Test, 12 bytes: left cell, comparison .., right kind .., right cell, constant."
abbrev pub test_in : List ℕ → ℕ → Test
test_in s i =
    let at : ℕ → ℕ = λ j. byte_at s (i + j) in
    record { left = byte_at s i; comparison = at 1; kind = at 2; right = at 3; constant = i64_at s (i + 4) }

-- "Assignment, 20 bytes: target, operation, cell A, cell B, constant K (8), p (4), q (4)."
abbrev pub assign_in : List ℕ → ℕ → Assign
assign_in s i =
    let at : ℕ → ℕ = λ j. byte_at s (i + j) in
    record { target = byte_at s i; operation = at 1; a = at 2; b = at 3; k = i64_at s (i + 4); p = u32_at s (i + 12); q = u32_at s (i + 16) }

-- m letters
abbrev pub name_in : List ℕ → ℕ → ℕ → List ℕ
name_in s i m = filled 16 0 (λ j. byte_at s (i + j)) m

-- "watch mask (4 bytes, cells), precedes mask (4, rules), number of tests t .., number of assignments a .., name length m ..,
-- a zero byte; then the tests, the assignments, the name": a rule whose head is at i, with room for t tests, a
-- assignments and m letters
abbrev pub rule_of : List ℕ → ℕ → ℕ → ℕ → ℕ → Rule
rule_of s i t a m =
    let count : ℕ → ℕ = λ j. byte_at s (i + j) in
    let tests : List Test = filled 8 no_test (λ j. test_in s (i + 12 + 12 * j)) t in
    let assigns : List Assign = filled 8 no_assign (λ j. assign_in s (i + 12 + 12 * t + 20 * j)) a in
    let name : List ℕ = name_in s (i + 12 + 12 * t + 20 * a) m in
    record { watch = u32_at s i; precedes = u32_at s (i + 4); t = count 8; a = count 9; m = count 10; zero = count 11; tests = tests; assigns = assigns; name = name }
