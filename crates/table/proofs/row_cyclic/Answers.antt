-- Of the rules on a cycle of the closure, one is below n.
use mathlib.Core.Path.{ap₂, ◌∙◌}
use mathlib.Core.Bool.{◌&&◌}
use lib.Dec.{ltb}
use Rattle.mask.proofs.SearchLaws.{some_same, some_below}
use Rattle.mask.specs.Mask.{has, meet}
use Rattle.graph.specs.Graph.{leads, cyclic}
use Rattle.table.proofs.row_cyclic.Goals as goal

pub returns : goal.returns
unfolding meet cyclic
returns c =
    let on = c.loops-on.result in
    let low = c.below.result in
    c.meets.ensures
    ∙ some_same 32 (λ i. has on i && has low i) (λ i. leads c.args.row c.args.n i i && ltb i c.args.n)
    (λ i l. ap₂ ◌&&◌ (c.loops-on.ensures i ∙ c.closure.ensures i i) (c.below.ensures i))
    ∙ some_below 32 c.args.n (λ i. leads c.args.row c.args.n i i) c.requires
