-- The rule that is ready gets one more than the sum of what it may trigger: those are weighed already, so the calls
-- that follow do not change them. The measure is the count of unweighed rules.
use Rattle.mask.specs.Search.{count}
use Rattle.mask.specs.Mask.{has}
use Rattle.analysis_weights.proofs.+weigh.Given as goal

abbrev pub decreases-weigh : goal.decreases-weigh
decreases-weigh l = count 32 (has l.left)
