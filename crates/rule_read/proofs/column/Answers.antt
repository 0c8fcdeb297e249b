use Prim.Native.Nat.{◌+◌, ◌*◌}
use borrow.Author.Rules.{rules}
use Rattle.little.specs.Little.{u32_at}
use Rattle.rule.proofs.FillLaws.{is_filled}
use Rattle.rule_read.proofs.column.Goals as goal

pub returns : goal.returns
returns c =
    let a = c.args in
    let r = c.row.ensures in
    is_filled 32 0 (λ i. u32_at a.s.now (a.at + a.step * i)) a.n _ c.requires.0 r.size
    (λ i l. let p = r.below i l in search rules) r.beyond
