-- `1 << n` in a u64 is 2 ^ n, and one less has just the bits below n.
use mathlib.Core.Path.{ap, ◌∙◌}
use Prim.Native.Nat.{ℕ, ◌-◌}
use Rattle.mask.specs.Mask.{has}
use Rattle.mask.proofs.BitsLaws.{has-ones}
use Rattle.mask.proofs.MaskLaws.{wide-shl}
use Rattle.mask.proofs.below.Goals as goal

pub returns : goal.returns
returns c = λ k. ap (λ (x : ℕ). has (x - 1) k) (wide-shl c.args.n c.requires) ∙ has-ones c.args.n k
