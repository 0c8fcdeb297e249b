-- The marks before row i and those of row i up to j are filled in; what is left of the row stands for absent rules.
use Rattle.std.proofs.Common.{◌-◌, ◌+◌}
use Rattle.mask.specs.MaskInner.{Upto}
use Rattle.analysis_marks.specs.AnalysisMarksInner.{graphs_in, MarkAt, no_marks}
use Rattle.analysis_marks.proofs.row.Given as goal

abbrev pub invariant-loop-j : goal.invariant-loop-j
invariant-loop-j l = Upto (MarkAt (graphs_in l.n l.relations)) no_marks (l.at + (l.j - (l.i + 1))) l.q
