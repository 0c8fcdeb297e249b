use Rattle.std.proofs.Common.{rules}
use Rattle.analysis_pairs.specs.RuleMasks.{triggers, may_trigger}
use Rattle.analysis_pairs.proofs.RowsLaws.{row_is}
use Rattle.analysis_pairs.proofs.triggers.Goals as goal

pub returns : goal.returns
unfolding triggers may_trigger
returns c =
    let e = c.row.ensures in
    row_is _ c.args.n c.requires.1 _ e.size (search rules) (λ r m l s k. let h = e.below r m in search rules) e.beyond
