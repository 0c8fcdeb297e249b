-- The loop has the sum over the members passed. No sum on the way is more than all entries together.
use Rattle.std.proofs.Common.{◌≡◌}
use Rattle.analysis_weights.specs.Weight.{total}
use Rattle.analysis_weights.specs.AnalysisWeightsInner.{weight_in}
use Rattle.analysis_weights.proofs.total.Given as goal

abbrev pub invariant-loop-x : goal.invariant-loop-x
invariant-loop-x l = l.t ≡ total l.x l.m (weight_in l.w)
