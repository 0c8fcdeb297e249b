-- The word, the numbers and the newline, for either case.
use Rattle.std.proofs.Common.{arith}
use borrow.Author.Tests.{eq-eqb, ne_eqb}
use Rattle.report_lines.specs.FourLines.{ends_line}
use Rattle.report_text.specs.Text.{letters}
use Rattle.report_text.proofs.AddedLaws.{added_line}
use Rattle.report_lines.proofs.ends_line.Goals as goal
use Rattle.report_lines.proofs.ends_line.Goals.{then-faulty-eq0, else-faulty-eq0}

pub returns : goal.returns
unfolding ends_line
returns c =
    elim c.if-faulty-eq0.branch [
      | then-faulty-eq0 w ↦ rw (eq-eqb c.args.faulty 0 w.if-faulty-eq0.true)
          (added_line (letters "ends yes") _ w.word.ensures w.number.ensures (rw (← w.text-is) c.push.ensures) (omega arith))
      | else-faulty-eq0 w ↦ rw (ne_eqb c.args.faulty 0 w.if-faulty-eq0.false)
          (added_line (letters "ends no") _ w.word-else-faulty-eq0.ensures w.members.ensures (rw (← w.text-is) c.push.ensures) (omega arith))
    ]
