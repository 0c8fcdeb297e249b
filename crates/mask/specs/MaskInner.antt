-- What only contracts of inner functions and laws of loops cite.
use Rattle.std.specs.Prelude.{◌≡◌, Bool, ◌&&◌, List, ℕ, ◌≤◌, ◌<◌, length, get_or}
use Rattle.mask.specs.Search.{least}
use Rattle.mask.specs.Mask.{has}

-- a list, entry by entry: q is p, but that each entry x below i is one with P x
pub record Upto (P : ℕ → ℕ → Type 0) (p : List ℕ) (i : ℕ) (q : List ℕ) : Type 0 where
  pub len : length q ≡ length p
  pub done : (x : ℕ) → x < i → P x (get_or q x 0)
  pub rest : (x : ℕ) → i ≤ x → get_or q x 0 ≡ get_or p x 0

-- a union of rows, member by member: whether x is a member of m and its row has s
abbrev pub named : List ℕ → ℕ → ℕ → ℕ → Bool
named rows m s x = has m x && has (get_or rows x 0) s

-- the lowest member of m, or 32 where it has none
unfoldable pub lowest : ℕ → ℕ
lowest m = least 32 (has m)
