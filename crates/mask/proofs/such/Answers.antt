use Rattle.std.proofs.Common.{arith}
use Rattle.mask.proofs.BitsLaws.{has-zero}
use Rattle.mask.proofs.such.Goals as goal

pub loop-x-init : goal.loop-x-init
loop-x-init g c = (λ k l. absurd (omega arith), λ k l. has-zero k)
