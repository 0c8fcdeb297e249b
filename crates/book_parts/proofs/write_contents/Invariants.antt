-- The entries of the rules passed are written, and the next start is the sum so far.
use Rattle.std.proofs.Common.{◌≡◌}
use Rattle.little.specs.Put.{put}
use Rattle.table.specs.Memory.{table_from}
use Rattle.table.specs.BodyStarts.{start_at}
use Rattle.book_parts.specs.BookPartsInner.{sizes_of, contents_bytes}
use Rattle.book_parts.proofs.write_contents.Given as goal

abbrev pub invariant-loop-i : goal.invariant-loop-i
invariant-loop-i l =
    (l.start ≡ start_at l.n (sizes_of (table_from l.table).rules) l.i)
    × (l.out ≡ put l.initial.out 4 (contents_bytes l.n (table_from l.table).rules l.i))
