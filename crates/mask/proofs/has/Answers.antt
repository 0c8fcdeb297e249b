-- The bit of a number is what is left of it after the shift, modulo 2.
use mathlib.Core.Path.{ap}
use Prim.Native.Nat.{ℕ, ◌/◌, ◌^◌}
use lib.Dec.{eqb}
use lib.Bits.{and_mask}
use Rattle.mask.specs.Mask.{has}
use Rattle.mask.proofs.has.Goals as goal

pub returns : goal.returns
unfolding has
returns c = ap (λ (x : ℕ). eqb x 1) (and_mask (c.args.m / 2 ^ c.args.i) 1)
