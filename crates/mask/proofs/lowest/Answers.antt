-- The count of zeros below the lowest digit of a number of 32 digits is the least of its members.
use Rattle.mask.specs.MaskInner.{lowest}
use Rattle.mask.proofs.MaskLaws.{zeros-least}
use Rattle.mask.proofs.lowest.Goals as goal

pub returns : goal.returns
unfolding lowest
returns c = zeros-least 32 c.args.m
