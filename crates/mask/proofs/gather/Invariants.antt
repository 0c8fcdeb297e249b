-- The loop takes the lowest member off `left` and joins its row to a: the rows that m names are always those in a and those that
-- `left` names. The measure is `left` itself, a smaller number with each member fewer.
use Rattle.std.proofs.Common.{◌<◌, ◌^◌}
use Rattle.mask.proofs.LoopsLaws.{Gathering}
use Rattle.mask.proofs.gather.Given as goal

abbrev pub invariant-loop-left : goal.invariant-loop-left
invariant-loop-left l = (l.left < 2 ^ 32) × Gathering l.rows l.m l.left l.a

abbrev pub decreases-loop-left : goal.decreases-loop-left
decreases-loop-left l = l.left
