-- All are written once as many have been passed as there are.
use Rattle.std.proofs.Common.{refl, arith, rules}
use Rattle.little.proofs.PutLaws.{written_none, written-more, written_all}
use Rattle.little.proofs.put_bytes.Goals as goal

pub loop-j-init : goal.loop-j-init
loop-j-init c = written_none

pub loop-j-preserved : goal.loop-j-preserved
loop-j-preserved c = written-more c.loop-j.invariant (omega arith) (omega arith) 0 _ refl

pub returns : goal.returns
returns c = written_all c.loop-j.invariant (omega arith)
