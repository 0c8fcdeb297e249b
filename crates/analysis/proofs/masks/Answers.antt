-- The four rows are those of the table's masks.
use Rattle.std.proofs.Common.{rules, arith}
use Rattle.rule.specs.Uses.{reads}
use Rattle.table.specs.Memory.{table_from}
use Rattle.analysis.specs.TableMasks.{cells_of}
use Rattle.analysis.proofs.TableMasksLaws.{rule-row, rows_of_lem}
use Rattle.analysis.proofs.masks.Goals as goal

pub returns : goal.returns
unfolding table_from
returns c =
    let s = c.args.table.now in
    let t = table_from s in
    let read = rule-row s c.requires (cells_of reads t) c.row.result c.row.ensures.size
    (λ i l. let h = c.row.ensures.below i (omega arith) in search rules) (λ i l. c.row.ensures.beyond i (omega arith)) in
    rows_of_lem t c.from-n.ensures c.watches.ensures read c.written.ensures c.precedes.ensures
