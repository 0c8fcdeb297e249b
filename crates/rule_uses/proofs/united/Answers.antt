use Rattle.std.proofs.Common.{◌||◌, sym, ap₂, ◌∙◌}
use mathlib.Core.Bool.{or_comm}
use Rattle.mask.specs.Search.{some}
use Rattle.mask.proofs.BitsLaws.{has-zero, has-or}
use Rattle.mask.proofs.SearchLaws.{some_more}
use Rattle.rule_uses.proofs.united.Goals as goal

pub loop-j-init : goal.loop-j-init
unfolding some
loop-j-init g c T h x = has-zero x

pub loop-j-preserved : goal.loop-j-preserved
loop-j-preserved g c T h x =
    let j = c.loop-j.j in
    has-or c.loop-j.all c.f-all.result x
    ∙ (ap₂ ◌||◌ (c.loop-j.invariant T h x) (h j c.f-all.result c.loop-j-test.true c.f-all.ensures x)
    ∙ (or_comm (some j (λ i. T i x)) (T j x) ∙ sym (some_more j (λ i. T i x))))
