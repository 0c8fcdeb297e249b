-- The sum over the rules passed is the start of the next.
use mathlib.Core.Path.{◌≡◌}
use Prim.Native.Nat.{◌+◌, ◌*◌, ◌≤◌}
use Rattle.table.specs.Memory.{table_from}
use Rattle.table.specs.BodyStarts.{start_at}
use Rattle.book_parts.specs.BookPartsInner.{sizes_of}
use Rattle.book_parts.proofs.end_of.Given as goal

abbrev pub invariant-loop-i : goal.invariant-loop-i
invariant-loop-i l = (l.end ≡ start_at l.n (sizes_of (table_from l.table).rules) l.i) × (l.end ≤ 132 + 8427 * l.i)
