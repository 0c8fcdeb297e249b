-- What both have is 0 exactly when they share no member.
use Rattle.mask.proofs.MaskLaws.{meet_law}
use Rattle.mask.proofs.meets.Goals as goal

pub returns : goal.returns
returns c = meet_law c.args.a c.args.b c.ranges.a.fits c.ranges.b.fits
