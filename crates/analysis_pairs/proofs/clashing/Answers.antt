-- The two masks together, without i, are the rules that do not commute with i.
use mathlib.Core.Path.{ap, ap₂, ◌∙◌}
use mathlib.Core.Bool.{Bool, not, ◌&&◌, ◌||◌}
use lib.Dec.{eqb}
use Rattle.mask.proofs.BitsLaws.{has-or}
use Rattle.analysis_pairs.specs.AnalysisPairsInner.{clashing}
use Rattle.analysis_pairs.proofs.clashing.Goals as goal

pub returns : goal.returns
unfolding clashing
returns c s l =
    let i = c.args.i in
    c.without.ensures s
    ∙ ap (λ (b : Bool). b && not (eqb s i))
    (has-or c.touching.result c.touching-2.result s
    ∙ ap₂ ◌||◌ (c.touching.ensures s l) (c.touching-2.ensures s l))
