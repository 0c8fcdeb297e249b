-- What is left of k lies from the start of row i on.
use Rattle.std.proofs.Common.{◌≡◌, ◌+◌}
use Rattle.analysis_marks.specs.Index.{start}
use Rattle.analysis_marks.proofs.pair_at.Given as goal

abbrev pub invariant-loop-i : goal.invariant-loop-i
invariant-loop-i l = start l.i + l.left ≡ l.k
