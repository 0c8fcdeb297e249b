-- The bodies passed have no number, and the row holds their names.
use Rattle.std.proofs.Common.{◌≡◌, length}
use Rattle.mask.proofs.LoopsLaws.{Passed}
use Rattle.rule.specs.Numbers.{not_zero}
use Rattle.rule_check.proofs.NamesLaws.{Named}
use Rattle.book_judge.specs.Read.{number_in, table_in}
use Rattle.book_judge.proofs.judge_bodies.Given as goal

abbrev pub invariant-loop-i : goal.invariant-loop-i
invariant-loop-i l =
    (length l.names ≡ 32) × Passed (λ x. not_zero (number_in l.s x)) l.i-counter × Named l.names (table_in l.s).rules l.i-counter
