-- The first i are written: one more where they end is the first i + 1.
use mathlib.Core.Path.{◌≡◌}
use Rattle.little.specs.Put.{put}
use Rattle.layout_state.specs.States.{cells_bytes}
use Rattle.layout_state.proofs.put_cells.Given as goal

abbrev pub invariant-loop-i : goal.invariant-loop-i
invariant-loop-i l = l.out ≡ put l.initial.out 0 (cells_bytes l.fn.cells l.i)
