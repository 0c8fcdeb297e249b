-- What only contracts of inner functions of `report_text` cite.
use Rattle.std.specs.Prelude.{◌≡◌, List, ◌++◌, ℕ, ◌+◌, ◌≤◌, length}

-- the text e is d with the bytes bs at its end, at most m of them
pub record Added (bs : List ℕ) (m : ℕ) (d e : List ℕ) : Type 0 where
  pub text : e ≡ d ++ bs
  pub most : length e ≤ length d + m
