-- The word and the count, then the newline or the first pair and its culprits.
use Rattle.std.proofs.Common.{arith}
use borrow.Author.Tests.{eq-eqb, ne_eqb}
use Rattle.report_lines.specs.FourLines.{pairs_line}
use Rattle.report_text.specs.Text.{letters}
use Rattle.report_text.proofs.AddedLaws.{added_numbers, added_line}
use Rattle.report_lines.proofs.pairs_line.Goals as goal
use Rattle.report_lines.proofs.pairs_line.Goals.{in-Some, in_default}

pub returns : goal.returns
unfolding pairs_line
returns c =
    elim c.match-v.branch [
      | in-Some w ↦ rw (← c.from.ensures, ne_eqb c.from.result 0 (λ z. omega (arith, z, c.from.ensures, c.args.v.now.some w.in-Some.pair w.in-Some.is)), w.in-Some.is)
          (added_line (letters "pairs") _ c.word.ensures
          (added_numbers _ _ (added_numbers _ _ c.number.ensures w.two_numbers.ensures) w.two_numbers-in-Some.ensures)
          (rw (← w.text-is) c.push.ensures) (omega arith))
      | in_default w ↦ rw (← c.from.ensures, eq-eqb c.from.result 0 (omega (arith, c.from.ensures, c.args.v.now.none w.in_default.is)))
          (added_line (letters "pairs") _ c.word.ensures c.number.ensures (rw (← w.text-is) c.push.ensures) (omega arith))
    ]
