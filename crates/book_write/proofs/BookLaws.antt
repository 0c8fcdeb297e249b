-- How long a book is: "The largest book is 9,220 bytes."
use mathlib.Core.Path.{◌≡◌}
use mathlib.Core.List.{List, [], ◌∷◌, ◌++◌}
use Prim.Native.Nat.{ℕ, ◌≤◌}
use native.Mathlib.Omega.{arith}
use lib.ListN.{length, length-append}
use Rattle.table.specs.Table.{Table}
use Rattle.table.specs.Check.{Sound}
use Rattle.table.specs.BodyStarts.{start_at}
use Rattle.book_write.specs.Book.{book_of}
use Rattle.book_parts.specs.BookPartsInner.{sizes_of, contents_bytes, bodies_bytes}
use Rattle.book_parts.proofs.PartsLaws.{length-bodies, length-contents, ready, start-most}

-- the book's length is where its last body ends
pub length-book : (t : Table) → length (book_of t) ≡ start_at t.n (sizes_of t.rules) t.n
unfolding book_of
length-book t =
    let head : List ℕ = 1 ∷ t.n ∷ t.k ∷ 0 ∷ [] in
    let c = contents_bytes t.n t.rules t.n in
    let b = bodies_bytes t.rules t.n in
    omega (
      arith,
      length-append (head ++ c) b,
      length-append head c,
      length-contents t.n t.rules t.n,
      length-bodies t.n t.rules t.n,
    )

pub largest : (t : Table) → Sound t → length (book_of t) ≤ 9220
largest t s =
    let r = ready t s in
    omega (arith, length-book t, start-most t.n t.rules r t.n (omega arith), r.few)
