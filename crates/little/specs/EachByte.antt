-- A list of bytes.
use Rattle.std.specs.Prelude.{List, ℕ, ◌<◌, get_or}

-- each is below 256
pub record Bytes (s : List ℕ) : Type 0 where
  pub small : (i : ℕ) → get_or s i 0 < 256
