-- What writing a table into a buffer gives and leaves there, in the paper's order, for every table and every buffer.
use Rattle.std.specs.Prelude.{cond, List, ℕ, ltb, length, Result, Ok, Err}
use Rattle.little.specs.Put.{put}
use Rattle.refusal.specs.declared.Refusal.{Refusal}
use Rattle.refusal.specs.RefusalNumbers.{number_of, place_of}
use Rattle.table.specs.Table.{Table}
use Rattle.table.specs.Check.{check_of, checked}
use Rattle.book_write.specs.Book.{book_of}

-- the number, its place, and how many bytes the book has
pub record Written : Type 0 where
  pub number : ℕ
  pub place : ℕ
  pub length : ℕ

abbrev pub written : ℕ → ℕ → ℕ → Written
written number place size = record { number = number; place = place; length = size }

-- what a call's result says
abbrev pub written_of : Result ℕ Refusal → Written
written_of (Ok n) = written 0 255 n
written_of (Err e) = written (number_of e) (place_of e) 0

-- after the writer's checks 18, "output buffer shorter than the book". "A refused write leaves the buffer untouched; a done
-- write leaves the bytes after the book untouched."
unfoldable pub write_of : Table → List ℕ → Written × List ℕ
write_of t d =
    checked (check_of t) (λ number place. (written number place 0, d))
    (cond (ltb (length d) (length (book_of t))) (written 18 255 0, d) (written 0 255 (length (book_of t)), put d 0 (book_of t)))

-- after the writer's checks the book's length; 0 where refused
unfoldable pub size_of : Table → Written
size_of t = checked (check_of t) (λ number place. written number place 0) (written 0 255 (length (book_of t)))
