-- The masks that stand 4 bytes after a slot begins, of all slots.
use Rattle.std.proofs.Common.{◌≤◌, ap, ◌∙◌, arith}
use Rattle.little.specs.Little.{u32_at}
use Rattle.rule.specs.declared.Rule.{Rule}
use Rattle.table.proofs.ImageLaws.{column-is}
use Rattle.table_rows.proofs.precedes.Goals as goal

pub returns : goal.returns
returns c =
    let l : c.from.result ≤ 32 = omega arith in
    c.column.ensures ∙ column-is c.args.table.now c.from.result c.from.ensures l (λ (r : Rule). r.precedes) 8 (λ i. ap (u32_at c.args.table.now) (omega arith))
