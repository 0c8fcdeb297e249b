use Rattle.std.proofs.Common.{◌≡◌, rules, get_or, ◌∙◌}
use Rattle.mask.specs.Mask.{has}
use Rattle.analysis_pairs.specs.AnalysisPairsInner.{clashes, clashing}
use Rattle.analysis_pairs.proofs.ClashingLaws.{clash_law}
use Rattle.analysis_pairs.proofs.RowsLaws.{row_is}
use Rattle.analysis_pairs.proofs.clashes.Goals as goal

pub returns : goal.returns
unfolding clashes
returns c =
    let e = c.row.ensures in
    row_is _ c.args.m.now.n c.requires.1 _ e.size (search rules)
    (λ r m l s k.
    let h = e.below r m in
    let g : has (get_or c.row.result r 0) s ≡ clashing c.touched-all.result c.args.m.now.writes r s = search rules in
    g ∙ clash_law c.args.m.now c.touched-all.result c.touched-all.ensures r s l k) e.beyond
