-- The masks that stand where a slot begins, of all slots.
use Rattle.std.proofs.Common.{◌≤◌, refl, ◌∙◌, arith}
use Rattle.rule.specs.declared.Rule.{Rule}
use Rattle.table.proofs.ImageLaws.{column-is}
use Rattle.table_rows.proofs.watches.Goals as goal

pub returns : goal.returns
returns c =
    let l : c.from.result ≤ 32 = omega arith in
    c.column.ensures ∙ column-is c.args.table.now c.from.result c.from.ensures l (λ (r : Rule). r.watch) 4 (λ i. refl)
