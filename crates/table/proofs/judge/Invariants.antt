-- No rule passed has a number, and the row holds their names.
use Rattle.std.proofs.Common.{◌≡◌, length}
use Rattle.mask.proofs.LoopsLaws.{Passed}
use Rattle.rule.specs.Numbers.{not_zero}
use Rattle.rule_check.proofs.NamesLaws.{Named}
use Rattle.table.specs.Check.{number_at}
use Rattle.table.specs.Memory.{table_from}
use Rattle.table.proofs.judge.Given as goal

abbrev pub invariant-loop-i : goal.invariant-loop-i
invariant-loop-i l =
    (length l.names ≡ 32) × Passed (λ x. not_zero (number_at (table_from l.s) x)) l.i-counter
    × Named l.names (table_from l.s).rules l.i-counter
