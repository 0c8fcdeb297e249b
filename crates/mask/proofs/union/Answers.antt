-- Bit by bit, `|` is `||`.
use Rattle.mask.proofs.BitsLaws.{has-or}
use Rattle.mask.proofs.union.Goals as goal

pub returns : goal.returns
returns c = has-or c.args.a c.args.b
