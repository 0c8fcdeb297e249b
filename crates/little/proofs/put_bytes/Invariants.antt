-- The first j bytes are written: one more where they end is the first j + 1.
use Rattle.little.proofs.PutLaws.{Written}
use Rattle.little.proofs.put_bytes.Given as goal

abbrev pub invariant-loop-j : goal.invariant-loop-j
invariant-loop-j l = Written l.initial.out l.at l.fn.s l.j l.out
