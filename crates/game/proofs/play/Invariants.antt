-- At the loop's head the run stands at the state with what is left of the budget.
use Rattle.table.specs.Memory.{table_from}
use Rattle.game.proofs.LoopLaws.{Playing}
use Rattle.game.proofs.play.Given as goal

abbrev pub invariant-loop-r : goal.invariant-loop-r
invariant-loop-r l = Playing (table_from l.table) l.fn.s l.budget l.state l.left

abbrev pub decreases-loop-r : goal.decreases-loop-r
decreases-loop-r l = l.left
