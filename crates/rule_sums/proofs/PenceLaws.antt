-- Whole pence: `differs` tells two amounts apart.
use Rattle.std.proofs.Common.{◌≡◌, false, ℤ, arith}
use Rattle.std.proofs.lemmas.Int.{ints}
use Rattle.rule_sums.specs.Sums.{differs}

pub alike : (v : ℤ) → differs v v ≡ false
alike v = grind (arith, ints)

pub same : (v w : ℤ) → differs v w ≡ false → v ≡ w
same v w e = grind (arith, ints)
