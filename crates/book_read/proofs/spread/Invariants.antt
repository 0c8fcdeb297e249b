-- The slots of the bodies passed, one where the other ends.
use Rattle.std.proofs.Common.{◌≡◌}
use Rattle.little.specs.Put.{put}
use Rattle.table.proofs.MemoryLaws.{rules_bytes}
use Rattle.book_judge.specs.Read.{table_in}
use Rattle.book_read.proofs.spread.Given as goal

abbrev pub invariant-loop-i : goal.invariant-loop-i
invariant-loop-i l = l.out ≡ put l.initial.out 4 (rules_bytes (table_in l.s).rules l.i)
