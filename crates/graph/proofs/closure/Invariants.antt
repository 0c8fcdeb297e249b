-- After k turns the masks are what each rule leads to through rules below k.
use Rattle.std.proofs.Common.{◌≡◌, ℕ, length, get_or}
use Rattle.mask.specs.Mask.{has}
use Rattle.graph.specs.Graph.{leads}
use Rattle.graph.proofs.closure.Given as goal

abbrev pub invariant-loop-k : goal.invariant-loop-k
invariant-loop-k l = (length l.q ≡ 32) × ((r s : ℕ) → has (get_or l.q r 0) s ≡ leads l.fn.rows l.k r s)
