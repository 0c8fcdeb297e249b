-- The word, the two numbers and the newline, one after another.
use Rattle.std.proofs.Common.{arith}
use Rattle.report_text.proofs.AddedLaws.{added_line}
use Rattle.report_lines.proofs.numbered.Goals as goal

pub returns : goal.returns
returns c = added_line _ _ c.word.ensures c.two_numbers.ensures c.push.ensures (omega arith)
