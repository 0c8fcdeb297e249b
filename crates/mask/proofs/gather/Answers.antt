use Rattle.std.proofs.Common.{ℕ, subst, rules}
use Rattle.mask.proofs.MaskLaws.{lowest_member, fewer}
use Rattle.mask.proofs.LoopsLaws.{Gathering, gathering_start, gathering_turn, gathering_end}
use Rattle.mask.proofs.gather.Goals as goal

pub loop-left-init : goal.loop-left-init
loop-left-init c = (search rules, gathering_start c.args.rows.now _)

pub loop-left-smaller : goal.loop-left-smaller
loop-left-smaller c =
    let low = lowest_member _ _ c.lowest-x.ensures c.loop-left.invariant.0 c.loop-left-test.true in
    fewer _ _ _ c.loop-left.invariant.0 (search rules) low.1 c.without-left.ensures

pub loop-left-preserved : goal.loop-left-preserved
loop-left-preserved c =
    let low = lowest_member _ _ c.lowest-x.ensures c.loop-left.invariant.0 c.loop-left-test.true in
    (search rules, gathering_turn c.args.rows.now _ _ _ _ _ low.0 low.1 c.without-left.ensures c.loop-left.invariant.1)

pub returns : goal.returns
returns c =
    gathering_end c.args.rows.now _ _
    (subst (λ (k : ℕ). Gathering c.args.rows.now c.args.m k c.loop-left.a) c.loop-left-test.false c.loop-left.invariant.1)
