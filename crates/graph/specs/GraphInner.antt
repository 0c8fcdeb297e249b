-- What only contracts of inner functions of `graph` cite.
use Rattle.std.specs.Prelude.{◌≡◌, true, ◌&&◌, ◌||◌, List, ℕ, ◌^◌, ◌<◌, length, get_or}
use Rattle.mask.specs.Mask.{has}

-- r leads straight to s
abbrev pub Edge : List ℕ → ℕ → ℕ → Type 0
Edge rows r s = has (get_or rows r 0) s ≡ true

-- q is the row p, but that one more rule, k, may stand in between
pub record Through (p : List ℕ) (k : ℕ) (q : List ℕ) : Type 0 where
  pub size : length q ≡ length p
  pub masks : (r s : ℕ) → has (get_or q r 0) s ≡ (has (get_or p r 0) s || (has (get_or p r 0) k && has (get_or p k 0) s))

-- every mask of the row names rules below n only
abbrev pub Rows : ℕ → List ℕ → Type 0
Rows n rows = (r : ℕ) → get_or rows r 0 < 2 ^ n

-- from r on, every way ends
pub data Halts (rows : List ℕ) : ℕ → Type 0 where
  halts : {r : ℕ} → ((s : ℕ) → Edge rows r s → Halts rows s) → Halts rows r
