-- One number after another.
use Rattle.report_text.proofs.AddedLaws.{added_numbers}
use Rattle.report_text.proofs.two_numbers.Goals as goal

pub returns : goal.returns
returns c = rw (← c.from.ensures, ← c.from-2.ensures) (added_numbers _ _ c.number.ensures c.number-2.ensures)
