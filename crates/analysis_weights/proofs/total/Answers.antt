use Rattle.std.proofs.Common.{◌≡◌, ℕ, ◌+◌, Bool, true, false, cond, List, refl, sym, ap, ◌∙◌, arith}
use Rattle.mask.specs.Mask.{has}
use Rattle.analysis_weights.specs.Weight.{total}
use Rattle.analysis_weights.specs.AnalysisWeightsInner.{weight_in}
use Rattle.analysis_weights.proofs.SumsLaws.{total-le, total-more, sum_below-at}
use Rattle.analysis_weights.proofs.total.Goals as goal
use Rattle.analysis_weights.proofs.total.Goals.{else-has, then-has}

pub loop-x-init : goal.loop-x-init
unfolding total
loop-x-init c = refl

pub overflow_add-t : goal.overflow_add-t
overflow_add-t c =
    let w = weight_in c.args.w.now in
    omega (arith, c.loop-x.invariant, c.requires, total-le c.loop-x.x c.args.m w, sum_below-at 32 w c.loop-x.x c.loop-x-test.true)

-- one number further: t has got what the test says
turn : (m : ℕ) (w : List ℕ) (x t : ℕ) (b : Bool) → has m x ≡ b → t ≡ total x m (weight_in w) → t + cond b (weight_in w x) 0 ≡ total (x + 1) m (weight_in w)
turn m w x t b h q = omega (arith, total-more x m (weight_in w), ap (λ (c : Bool). cond c (weight_in w x) 0) h)

pub loop-x-preserved : goal.loop-x-preserved
loop-x-preserved c =
    let go = turn c.args.m c.args.w.now c.loop-x.x c.loop-x.t in
    elim c.if-has.branch [
      | then-has w ↦ w.t-is ∙ go true (sym c.has.ensures ∙ w.if-has.true) c.loop-x.invariant
      | else-has w ↦ omega (arith, w.t-is, go false (sym c.has.ensures ∙ w.if-has.false) c.loop-x.invariant)
    ]
