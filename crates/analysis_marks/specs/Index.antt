-- "496 marks, one for each pair (0,1), (0,2) .. (30,31), row by row": where the mark of a pair stands.
use Rattle.std.specs.Prelude.{ℕ, zero, suc, ◌+◌, ◌-◌}

-- where row i starts: after the rows before it; row k has 31 - k marks
unfoldable pub start : ℕ → ℕ
start zero = 0
start (suc i) = start i + (31 - i)

-- the pair of i and j, i below j
abbrev pub index : ℕ → ℕ → ℕ
index i j = start i + (j - suc i)
