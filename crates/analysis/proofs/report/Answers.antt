use Rattle.std.proofs.Common.{rules, refl}
use Rattle.analysis_marks.specs.AnalysisMarksInner.{no_marks}
use Rattle.analysis.proofs.TableMasksLaws.{orderly_from}
use Rattle.analysis.proofs.report.Goals as goal

pub judged-summary-requires : goal.judged-summary-requires
unfolding no_marks
judged-summary-requires c =
    (rw c.masks.ensures (orderly_from c.args.table.now (search rules) c.told-table (record { small = c.fits-table })), refl)
