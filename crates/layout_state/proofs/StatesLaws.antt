-- How many bytes a state has; a state and its bytes, both ways: storing and loading give back what went in.
use mathlib.Core.Path.{◌≡◌, sym, ◌∙◌, subst}
use mathlib.Core.List.{List, ◌++◌}
use Prim.Native.Nat.{ℕ, ◌+◌, ◌*◌, ◌<◌}
use native.Mathlib.Nat.{le_refl}
use native.Mathlib.Omega.{arith}
use lib.IntN.{ℤ, pos}
use lib.ListN.{length, length-append}
use mir.Syntax.{w64}
use mir.Val.{SFits}
use Rattle.little.specs.Little.{i64_at}
use Rattle.little.specs.Bytes.{u32_bytes, i64_bytes}
use Rattle.little.proofs.BytesLaws.{length_u32, length_i64}
use Rattle.little.proofs.StandsLaws.{Stands, stands_self, stands-left, stands_after, stands_then, stands-whole}
use Rattle.little.specs.EachByte.{Bytes}
use Rattle.little.proofs.BytesBackLaws.{u32_read, i64_read, u32_stands, i64_stands}
use Rattle.little.specs.Joined.{joined}
use Rattle.little.proofs.JoinedLaws.{length-joined, stands-joined, stands-each}
use Rattle.rule.proofs.FillLaws.{get_or-filled, slots_are}
use Rattle.rule_sums.specs.Sums.{at}
use Rattle.machine_spec.specs.declared.State.{State}
use Rattle.layout_state.specs.States.{cells_from, state_from, cells_bytes, state_bytes}

-- the amount of cell i that bytes hold
abbrev pub cell_in : List ℕ → ℕ → ℤ
cell_in s i = i64_at s (8 * i)

module _ (cells : List ℤ) (n : ℕ) where
  pub length-cells : length (cells_bytes cells n) ≡ 8 * n
  unfolding cells_bytes
  length-cells = length-joined 8 n (λ i. i64_bytes (at cells i)) (λ i. length_i64 (at cells i))

pub length_front : (cells : List ℤ) (waiting : ℕ) → length (cells_bytes cells 32 ++ u32_bytes waiting) ≡ 260
length_front cells waiting = rw (length-append, length-cells, length_u32)

pub length-state : (s : State) → length (state_bytes s) ≡ 264
unfolding state_bytes
length-state s = rw (length-append, length_front, length_u32)

-- ---- both ways

-- a state as memory holds it: 32 cells, and its numbers fit their types
pub record HeldState (s : State) : Type 0 where
  pub size : length s.cells ≡ 32
  pub cell : (i : ℕ) → i < 32 → SFits w64 (at s.cells i)
  pub waiting : s.waiting < 4294967296
  pub faults : s.faults < 4294967296

-- where the bytes of cell j begin
place : (cells : List ℤ) (j : ℕ) → 0 + length (joined j (λ i. i64_bytes (at cells i))) ≡ 8 * j
unfolding cells_bytes
place cells j = omega (arith, length-cells cells j)

-- a state stored and loaded is the same state
pub state-read : (s : State) → HeldState s → state_from (state_bytes s) ≡ s
unfolding state_from cells_from cells_bytes state_bytes
state-read s held = λ i. record { cells = cells i; waiting = waiting i; faults = faults i }
  where
    b : List ℕ
    b = state_bytes s

    front : Stands b 0 (cells_bytes s.cells 32 ++ u32_bytes s.waiting)
    front = stands-left b 0 (cells_bytes s.cells 32 ++ u32_bytes s.waiting) (u32_bytes s.faults) (stands_self b)

    rows : Stands b 0 (cells_bytes s.cells 32)
    rows = stands-left b 0 (cells_bytes s.cells 32) (u32_bytes s.waiting) front

    one : (j : ℕ) → j < 32 → cell_in b j ≡ at s.cells j
    one j l =
        i64_read b (8 * j) (at s.cells j) (held.cell j l)
        (subst (λ (k : ℕ). Stands b k (i64_bytes (at s.cells j))) (place s.cells j)
        (stands-each b 0 (λ i. i64_bytes (at s.cells i)) 32 rows j l))

    cells : (state_from b).cells ≡ s.cells
    cells =
        slots_are 32 (pos 0) (pos 0) (cell_in b) 32 s.cells (le_refl 32) held.size one (λ j l h. absurd (omega arith))

    waiting : (state_from b).waiting ≡ s.waiting
    waiting =
        u32_read b 256 s.waiting held.waiting
        (stands_after b 0 (cells_bytes s.cells 32) (u32_bytes s.waiting) 256 (length-cells s.cells 32) front)

    faults : (state_from b).faults ≡ s.faults
    faults =
        u32_read b 260 s.faults held.faults
        (stands_after b 0 (cells_bytes s.cells 32 ++ u32_bytes s.waiting) (u32_bytes s.faults) 260
        (length_front s.cells s.waiting) (stands_self b))

-- a state's bytes loaded and stored are the same bytes
pub state-written : (b : List ℕ) → Bytes b → length b ≡ 264 → state_bytes (state_from b) ≡ b
unfolding state_from cells_from cells_bytes state_bytes
state-written b small size =
    sym (stands-whole b (state_bytes s) whole (size ∙ sym (length-state s)))
  where
    s : State
    s = state_from b

    one : (j : ℕ) → j < 32 → Stands b (8 * j) (i64_bytes (at s.cells j))
    one j l =
        rw (get_or-filled 32 (pos 0) (cell_in b) 32 (pos 0) j l) (i64_stands b small (8 * j) (omega arith))

    rows : Stands b 0 (cells_bytes s.cells 32)
    rows =
        stands-joined b 0 (λ i. i64_bytes (at s.cells i)) (omega arith) 32
        (λ j l. subst (λ (k : ℕ). Stands b k (i64_bytes (at s.cells j))) (sym (place s.cells j)) (one j l))

    whole : Stands b 0 (state_bytes s)
    whole =
        stands_then b 0 (cells_bytes s.cells 32 ++ u32_bytes s.waiting) (u32_bytes s.faults) 260
        (length_front s.cells s.waiting)
        (stands_then b 0 (cells_bytes s.cells 32) (u32_bytes s.waiting) 256 (length-cells s.cells 32) rows
        (u32_stands b small 256 (omega arith)).stands)
        (u32_stands b small 260 (omega arith)).stands
