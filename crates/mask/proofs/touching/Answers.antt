use Rattle.std.proofs.Common.{rules}
use Rattle.mask.proofs.touching.Goals as goal

pub returns : goal.returns
returns c s l = let h = c.such.ensures.below s l in search rules
