-- The two masks only grow, and hold nothing but R1 and R2; where a round changes neither, they hold all of them. The
-- measure is the room that is left above the two numbers: a larger set is a larger number.
use Prim.Native.Nat.{◌^◌, ◌-◌, ◌+◌}
use Rattle.analysis_pairs.specs.AnalysisPairsInner.{turned_of}
use Rattle.analysis_pairs.proofs.GrowingLaws.{Growing}
use Rattle.analysis_pairs.proofs.Relations.grown.Given as goal

abbrev pub invariant-loop-next : goal.invariant-loop-next
invariant-loop-next l = Growing l.self.trig (turned_of l.self.ahead) l.i l.j l.sets.first l.sets.second

abbrev pub decreases-loop-next : goal.decreases-loop-next
decreases-loop-next l = 2 ^ 33 - (l.sets.first + l.sets.second)
