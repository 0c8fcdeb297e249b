-- The loop has the count of the marks 2 passed.
use Rattle.std.proofs.Common.{◌≡◌}
use Rattle.mask.specs.Search.{count}
use Rattle.analysis_marks.specs.Marks.{fails_at}
use Rattle.analysis_marks.proofs.count_failing.Given as goal

abbrev pub invariant-loop-m : goal.invariant-loop-m
invariant-loop-m l = l.failing ≡ count l.m-index (fails_at l.fn.q)
