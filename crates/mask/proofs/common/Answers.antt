-- Bit by bit, `&` is `&&`.
use Rattle.mask.proofs.BitsLaws.{has-and}
use Rattle.mask.proofs.common.Goals as goal

pub returns : goal.returns
returns c = has-and c.args.a c.args.b
