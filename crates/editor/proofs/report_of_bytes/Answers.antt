-- More than 32 records are refused; else the four columns are the masks of the row.
use Rattle.std.proofs.Common.{refl, subst, arith, length, ◌/◌}
use Rattle.rule.proofs.FillLaws.{length-upto}
use Rattle.analysis_pairs.specs.declared.Masks.{Masks}
use Rattle.analysis_masks.specs.Found.{report_of}
use Rattle.editor.specs.Rows.{row_masks, RowsSay}
use Rattle.editor.specs.RowsIn.{record_in, rows_in}
use Rattle.editor.proofs.CopyingLaws.{many-refused}
use Rattle.editor.proofs.RowsInLaws.{columns_are}
use Rattle.editor.proofs.report_of_bytes.Goals as goal

pub returns-then-n-gt32 : goal.returns-then-n-gt32
returns-then-n-gt32 c =
    let s = c.args.s.now in
    many-refused (row_masks (rows_in s)) _ (omega (arith, c.if-n-gt32.true, length-upto (length s / 16) (record_in s))) refl

pub returns : goal.returns
returns c =
    subst (λ (m : Masks). RowsSay m (report_of c.judged.result))
    (rw (c.column.ensures, c.column-2.ensures, c.column-3.ensures, c.column-4.ensures) (columns_are c.args.s.now)) c.judged.ensures
