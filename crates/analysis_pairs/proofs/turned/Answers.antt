use Rattle.std.proofs.Common.{rules}
use Rattle.analysis_pairs.specs.AnalysisPairsInner.{turned_of}
use Rattle.analysis_pairs.proofs.RowsLaws.{row_is, turned-within}
use Rattle.analysis_pairs.proofs.turned.Goals as goal

pub returns : goal.returns
unfolding turned_of
returns c =
    let e = c.row.ensures in
    row_is _ c.args.n (turned-within c.requires.1) _ e.size (search rules) (λ r m l s k. let h = e.below r m in search rules) e.beyond
