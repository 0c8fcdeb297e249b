-- `1 << n` in a u64 is 2 ^ n; a mask that is no less has a member from n up.
use mathlib.Core.Path.{ap, ◌∙◌}
use Prim.Native.Nat.{ℕ}
use lib.Dec.{leb}
use Rattle.mask.proofs.MaskLaws.{wide-shl, beyond_law}
use Rattle.mask.proofs.beyond.Goals as goal

pub returns : goal.returns
returns c =
    ap (λ (x : ℕ). leb x c.args.m) (wide-shl c.args.n c.requires) ∙ beyond_law c.args.m c.args.n c.ranges.m.fits
