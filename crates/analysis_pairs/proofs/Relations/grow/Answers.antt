-- What one of a may trigger, cut down to what goes before one of b, joins a.
use mathlib.Core.Path.{ap, ap₂, ◌∙◌}
use mathlib.Core.Bool.{Bool, ◌||◌, ◌&&◌}
use native.Mathlib.Omega.{arith}
use Rattle.mask.specs.Mask.{has}
use Rattle.mask.proofs.BitsLaws.{has-or, has-and}
use Rattle.analysis_pairs.proofs.TurnedLaws.{turned-met}
use Rattle.analysis_pairs.specs.AnalysisPairsInner.{grows}
use Rattle.analysis_pairs.proofs.Relations.grow.Goals as goal

pub returns : goal.returns
unfolding grows
returns c s =
    let a = c.args.a in
    has-or a _ s
    ∙ ap (λ (x : Bool). has a s || x)
    (has-and c.gather.result c.gather-2.result s
    ∙ ap₂ ◌&&◌ (c.gather.ensures s) (turned-met _ _ _ (omega arith) c.gather-2.ensures s))
