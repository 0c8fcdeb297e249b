-- More than 32 records are refused; else what is put into the arrays are the masks of the row.
use Rattle.std.proofs.Common.{◌≤◌, ◌<◌, ℕ, arith, rules, refl, subst, length, get_or}
use Rattle.analysis_pairs.specs.declared.Masks.{Masks}
use Rattle.analysis_masks.specs.Found.{report_of}
use Rattle.rule.proofs.FillLaws.{is_filled}
use Rattle.editor.specs.declared.Record.{Record}
use Rattle.editor.specs.Rows.{no_record, row_masks, RowsSay}
use Rattle.editor.proofs.CopyingLaws.{masks_are, many-refused}
use Rattle.editor.proofs.report.Goals as goal

pub returns-then-rows-gt32 : goal.returns-then-rows-gt32
returns-then-rows-gt32 c =
    let many : 32 < length c.args.rows.now = omega (arith, c.if-rows-gt32.true) in
    many-refused (row_masks c.args.rows.now) _ many refl

pub returns : goal.returns
returns c =
    let rows = c.args.rows.now in
    let n = length rows in
    let few : n ≤ 32 = omega (arith, c.if-rows-gt32.false) in
    let row = c.row.ensures in
    let row-2 = c.row-2.ensures in
    let row-3 = c.row-3.ensures in
    let row-4 = c.row-4.ensures in
    let at : ℕ → Record = λ i. get_or rows i no_record in
    subst (λ (m : Masks). RowsSay m (report_of c.judged.result))
    (masks_are n
    (is_filled 32 0 (λ i. (at i).watch) n _ few row.size (λ i l. let p = row.below i l in search rules) row.beyond)
    (is_filled 32 0 (λ i. (at i).reads) n _ few row-2.size (λ i l. let p = row-2.below i l in search rules) row-2.beyond)
    (is_filled 32 0 (λ i. (at i).writes) n _ few row-3.size (λ i l. let p = row-3.below i l in search rules) row-3.beyond)
    (is_filled 32 0 (λ i. (at i).precedes) n _ few row-4.size (λ i l. let p = row-4.below i l in search rules) row-4.beyond))
    c.judged.ensures
