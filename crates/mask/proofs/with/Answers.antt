-- One bit more.
use Rattle.mask.proofs.MaskLaws.{has-with}
use Rattle.mask.proofs.with.Goals as goal

pub returns : goal.returns
returns c = has-with c.args.m c.args.i c.requires
