-- A state over a table: whether it fits, who waits, who is eligible.
use Rattle.std.specs.Prelude.{◌≡◌, Bool, false, not, ◌&&◌, ◌||◌, cond, List, ℕ, ◌<◌, ◌^◌, ltb, length, replicate, ℤ, pos}
use Rattle.mask.specs.Search.{some, least}
use Rattle.mask.specs.Mask.{has, beyond}
use Rattle.rule.specs.Numbers.{out_of_range, not_zero_z}
use Rattle.table.specs.Table.{Table, goes_before}
use Rattle.rule_sums.specs.Sums.{at}
use Rattle.machine_spec.specs.declared.State.{State}

-- "A cell holds whole pence from -1,000,000,000,000 to 1,000,000,000,000", "Cells from k up are 0."
abbrev pub cell_bad : ℕ → List ℤ → ℕ → Bool
cell_bad k cells c = cond (ltb c k) (out_of_range (at cells c)) (not_zero_z (at cells c))

-- 11: "the state or mask doesn't fit the book"; "Mask bits from n (the number of rules) up are 0."
unfoldable pub state_bad : Table → State → Bool
state_bad t s = some 32 (cell_bad t.k s.cells) || beyond s.waiting t.n || beyond s.faults t.n

-- 11 does not apply to a state of 32 cells and two masks of 32 bits
pub record Fits (t : Table) (s : State) : Type 0 where
  pub long : length s.cells ≡ 32
  pub waiting : s.waiting < 2 ^ 32
  pub faults : s.faults < 2 ^ 32
  pub good : state_bad t s ≡ false

-- "A fresh state has any amounts in range, nothing waiting and no fault marks."
abbrev pub still : List ℤ → State
still amounts = record { cells = amounts; waiting = 0; faults = 0 }

-- all zeros: what a refused fresh state gives
abbrev pub zeros : State
zeros = still (replicate 32 (pos 0))

abbrev pub waits : State → ℕ → Bool
waits s r = has s.waiting r

-- "a waiting rule goes before it"
unfoldable pub held_back : Table → State → ℕ → Bool
held_back t s r = some 32 (λ x. waits s x && goes_before t x r)

-- "A rule is eligible when it waits and no waiting rule goes before it."
abbrev pub eligible : Table → State → ℕ → Bool
eligible t s r = waits s r && not (held_back t s r)

-- "the lowest-numbered eligible rule", or 32 where there is none
abbrev pub lowest_of : Table → State → ℕ
lowest_of t s = least 32 (eligible t s)
