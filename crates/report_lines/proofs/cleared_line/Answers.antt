-- Each word is the whole line.
use Rattle.std.proofs.Common.{arith, refl}
use Rattle.report_text.specs.Text.{spaced, line}
use Rattle.report_text.proofs.AddedLaws.{added_as}
use Rattle.report_lines.specs.FourLines.{cleared_line}
use Rattle.report_lines.proofs.cleared_line.Goals as goal

pub returns-then-cleared : goal.returns-then-cleared
unfolding cleared_line line spaced
returns-then-cleared c = rw (c.if-cleared.true) (added_as c.word.ensures refl (omega arith))

pub returns-else-cleared : goal.returns-else-cleared
unfolding cleared_line line spaced
returns-else-cleared c = rw (c.if-cleared.false) (added_as c.word-else-cleared.ensures refl (omega arith))
