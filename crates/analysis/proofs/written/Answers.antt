-- A mask for each rule, and 0 past the last.
use Rattle.std.proofs.Common.{rules, arith}
use Rattle.rule.specs.Uses.{writes}
use Rattle.table.specs.Memory.{table_from}
use Rattle.analysis.specs.TableMasks.{cells_of}
use Rattle.analysis.proofs.TableMasksLaws.{rule-row}
use Rattle.analysis.proofs.written.Goals as goal

pub returns : goal.returns
unfolding table_from
returns c =
    let s = c.args.table.now in
    rule-row s c.requires (cells_of writes (table_from s)) c.row.result c.row.ensures.size
    (λ i l. let h = c.row.ensures.below i (omega arith) in search rules) (λ i l. c.row.ensures.beyond i (omega arith))
