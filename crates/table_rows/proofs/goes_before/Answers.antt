-- The closure of the precedes masks.
use mathlib.Core.Path.{ap₂, ◌∙◌}
use mathlib.Core.List.{List}
use Prim.Native.Nat.{ℕ}
use Rattle.graph.specs.Graph.{leads}
use Rattle.table.specs.Table.{goes_before}
use Rattle.table.specs.Memory.{table_from}
use Rattle.table_rows.proofs.goes_before.Goals as goal

pub returns : goal.returns
unfolding goes_before table_from
returns c r s =
    c.closure.ensures r s
    ∙ ap₂ (λ (q : List ℕ) (n : ℕ). leads q n r s) c.precedes.ensures c.from.ensures
