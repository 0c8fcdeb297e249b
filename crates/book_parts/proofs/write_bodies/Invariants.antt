-- The bodies of the rules passed are written, and the next one goes where they end.
use Rattle.std.proofs.Common.{◌≡◌, ◌+◌, ◌*◌}
use Rattle.little.specs.Put.{put}
use Rattle.table.specs.Memory.{table_from}
use Rattle.table.specs.BodyStarts.{start_at}
use Rattle.book_parts.specs.BookPartsInner.{sizes_of, bodies_bytes}
use Rattle.book_parts.proofs.write_bodies.Given as goal

abbrev pub invariant-loop-i : goal.invariant-loop-i
invariant-loop-i l =
    (l.at ≡ start_at l.n (sizes_of (table_from l.table).rules) l.i)
    × (l.out ≡ put l.initial.out (4 + 4 * l.n) (bodies_bytes (table_from l.table).rules l.i))
