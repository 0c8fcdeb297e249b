use Rattle.std.proofs.Common.{◌≡◌, ◌≤◌, ◌<◌, ℕ, suc, subst, sym, get_or, arith}
use native.Mathlib.Nat.{le_of_eq}
use Rattle.mask.specs.Search.{count}
use Rattle.mask.specs.Mask.{has}
use Rattle.mask.proofs.SearchLaws.{count-drop, and_true_both}
use Rattle.analysis_weights.specs.AnalysisWeightsInner.{sum_below, weight_in}
use Rattle.analysis_weights.proofs.SumsLaws.{total-le}
use Rattle.analysis_weights.proofs.WeighingLaws.{room_fits, room-one, weighed_none, weighable_next, weighed_more}
use Rattle.analysis_weights.proofs.+weigh.Goals as goal
use Rattle.analysis_weights.proofs.+weigh.Goals.{After-total-t, After-without}

pub total-t-requires : goal.total-t-requires
total-t-requires t c = room_fits c.args.w.now c.args.left c.requires.room

-- the sum of what the rule may trigger is at most that of all
most : (t : ℕ) (c : After-total-t t) → c.total-t.result ≤ sum_below 32 (weight_in c.args.w.now)
most t c =
    omega (arith, c.total-t.ensures, total-le 32 (get_or c.args.trig.now c.in-Some.r 0) (weight_in c.args.w.now))

pub overflow_add-w : goal.overflow_add-w
overflow_add-w t c =
    omega (arith, most t c, room-one c.args.w.now c.args.left _ c.in-Some.ensures.0 (and_true_both _ _ c.in-Some.ensures.1).0 c.requires.room)

-- one unweighed rule fewer
fewer : (t : ℕ) (c : After-without t) → count 32 (has c.args.left) ≡ suc (count 32 (has c.without.result))
fewer t c =
    count-drop 32 (has c.args.left) (has c.without.result) _ c.in-Some.ensures.0 (and_true_both _ _ c.in-Some.ensures.1).0 c.without.ensures

pub weigh-requires : goal.weigh-requires
weigh-requires t c =
    let o = (goal.at.weigh-requires t c).After-without in
    let a = (goal.at.weigh-requires t c).After-total-t in (
      subst (λ (j : ℕ). count 32 (has o.without.result) < j) c.decreases (le_of_eq (sym (fewer t o))),
      weighable_next c.args.trig.now c.args.left o.without.result c.args.w.now _ c.in-Some.ensures.0 c.in-Some.ensures.1
          c.requires o.without.ensures _ (omega (arith, most t a)) (fewer t o),
    )

pub returns-in-Some : goal.returns-in-Some
returns-in-Some t c =
    weighed_more c.args.trig.now c.args.left c.without.result c.args.w.now _ c.in-Some.ensures.0 c.in-Some.ensures.1 c.requires
    c.without.ensures _ c.total-t.result c.total-t.ensures c.weigh.ensures

pub returns-in_default : goal.returns-in_default
returns-in_default t c =
    weighed_none c.args.trig.now c.args.left c.args.w.now c.ranges.left.fits c.in_default.ensures c.requires
