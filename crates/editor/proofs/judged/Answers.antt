-- A row with a number is refused by it; the masks of any other are judged.
use Rattle.editor.proofs.EditorRowsLaws.{refused-says, checked-orderly, checked-says}
use Rattle.std.proofs.Common.{◌≡◌, Err, rules, refl}
use Rattle.analysis_marks.specs.AnalysisMarksInner.{no_marks}
use Rattle.editor.proofs.judged.Goals as goal

pub returns-in_err-check : goal.returns-in_err-check
returns-in_err-check c =
    let back : c.from_residual.result ≡ Err c.in_err-check.field-0.0 = search rules in
    rw back (refused-says c.args.m.now c.check.ensures c.in_err-check.was)

pub judged-summary-requires : goal.judged-summary-requires
unfolding no_marks
judged-summary-requires c = (checked-orderly c.args.m.now c.check.ensures c.in_ok-check.was c.requires, refl)

pub returns : goal.returns
returns c = checked-says c.args.m.now c.check.ensures c.in_ok-check.was c.judged-summary.ensures
