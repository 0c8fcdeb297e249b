-- An answer as the paper gives it.
use Rattle.std.specs.Prelude.{ℕ}

-- "The first that applies is given, with its place: the rule number for 5 to 9, else 255."
pub record Answer : Type 0 where
  pub number : ℕ
  pub place : ℕ
