-- A state as 264 bytes: "32 cells of 8, the waiting mask, the fault marks".
use Rattle.std.specs.Prelude.{List, ◌++◌, ℕ, ◌*◌, ℤ, pos}
use Rattle.little.specs.Little.{u32_at, i64_at}
use Rattle.little.specs.Bytes.{u32_bytes, i64_bytes}
use Rattle.little.specs.Joined.{joined}
use Rattle.rule.specs.Fill.{filled}
use Rattle.rule_sums.specs.Sums.{at}
use Rattle.machine_spec.specs.declared.State.{State}

-- the 32 amounts that the first 256 bytes hold
unfoldable pub cells_from : List ℕ → List ℤ
cells_from s = filled 32 (pos 0) (λ i. i64_at s (8 * i)) 32

-- the state that the bytes hold
unfoldable pub state_from : List ℕ → State
state_from s = record { cells = cells_from s; waiting = u32_at s 256; faults = u32_at s 260 }

-- the first n amounts' bytes, one after another
unfoldable pub cells_bytes : List ℤ → ℕ → List ℕ
cells_bytes cells n = joined n (λ i. i64_bytes (at cells i))

-- the bytes of a state
unfoldable pub state_bytes : State → List ℕ
state_bytes s = cells_bytes s.cells 32 ++ u32_bytes s.waiting ++ u32_bytes s.faults
