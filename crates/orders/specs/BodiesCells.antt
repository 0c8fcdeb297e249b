-- Two different rules that commute, of a machine with cells.
use Rattle.std.specs.Prelude.{◌≢◌, ℕ, ◌<◌}
use Rattle.std.proofs.Math.Bool.{So}
use Rattle.orders.specs.Bodies.{Bodies, BodyFacts, Analysis}

module _ (k : ℕ) (B : Bodies k) (F : BodyFacts k B) (N : Analysis k B) where
  open B use {n}
  open N use {commute}

  -- two different rules that commute
  pub record Commuting (r s : ℕ) : Type 0 where
    pub r_below : r < n
    pub s-below : s < n
    pub differ : r ≢ s
    pub commutes : So (commute r s)
