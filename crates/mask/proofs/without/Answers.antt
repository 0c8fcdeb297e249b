-- The bit put in, so that taking it out again cannot add it.
use Rattle.mask.proofs.MaskLaws.{has-without}
use Rattle.mask.proofs.without.Goals as goal

pub returns : goal.returns
returns c = has-without c.args.m c.args.i c.requires
