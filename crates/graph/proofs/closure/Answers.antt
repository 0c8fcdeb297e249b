use Rattle.std.proofs.Common.{◌≡◌, ℕ, ◌+◌, List, get_or, rules, sym, ap, ◌∙◌, add-one}
use Rattle.mask.specs.Mask.{has}
use Rattle.graph.specs.Graph.{leads}
use Rattle.graph.specs.GraphInner.{Through}
use Rattle.graph.proofs.closure.Goals as goal

pub loop-k-init : goal.loop-k-init
unfolding leads
loop-k-init c = search rules

-- one more turn
turn : (p q q' : List ℕ) (k : ℕ) → ((r s : ℕ) → has (get_or q r 0) s ≡ leads p k r s) → Through q k q' → (r s : ℕ) → has (get_or q' r 0) s ≡ leads p (k + 1) r s
unfolding leads
turn p q q' k h e r s = e.masks r s ∙ rw (h r s, h r k, h k s) (ap (λ (i : ℕ). leads p i r s) (sym (add-one k)))

pub loop-k-preserved : goal.loop-k-preserved
loop-k-preserved c = (c.through.ensures.size ∙ c.loop-k.invariant.0, turn _ _ _ _ c.loop-k.invariant.1 c.through.ensures)
