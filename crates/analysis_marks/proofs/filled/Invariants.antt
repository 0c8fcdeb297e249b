-- The rows before row i are filled in, and `at` is where row i starts.
use Rattle.std.proofs.Common.{◌≡◌}
use Rattle.analysis_marks.specs.Index.{start}
use Rattle.analysis_marks.specs.AnalysisMarksInner.{graphs_in, Filled}
use Rattle.analysis_marks.proofs.filled.Given as goal

abbrev pub invariant-loop-i : goal.invariant-loop-i
invariant-loop-i l = (l.at ≡ start l.i) × Filled (graphs_in l.n l.relations) l.i l.q
