-- What only contracts of inner functions of `rule_sums` cite.
use Rattle.std.specs.Prelude.{◌≡◌, false, List, ℕ, ◌≤◌, length, ℤ}
use Rattle.rule.specs.declared.Assign.{Assign}
use Rattle.rule.specs.Numbers.{out_of_range}
use Rattle.rule_sums.specs.Sums.{at}

-- 32 cells, and what each holds is in range
pub record InRange (cells : List ℤ) : Type 0 where
  pub long : length cells ≡ 32
  pub each : (c : ℕ) → out_of_range (at cells c) ≡ false

-- "Constants are in range", "p 0 to 1,000,000 and q 1 to 1,000,000"
pub record InBounds (x : Assign) : Type 0 where
  pub constant : out_of_range x.k ≡ false
  pub times : x.p ≤ 1000000
  pub over : x.operation ≡ 4 → 1 ≤ x.q
