-- Both round trips, for every list of bytes and every table that memory holds, and what follows.
use mathlib.Core.Path.{◌≡◌, sym, ap, ◌∙◌}
use mathlib.Core.List.{List}
use Prim.Native.Nat.{ℕ, ◌≤◌}
use lib.ListN.{length, take}
use Rattle.little.specs.Put.{put}
use Rattle.little.proofs.PutLaws.{put_front}
use Rattle.little.specs.EachByte.{Bytes}
use Rattle.table.proofs.SoundLaws.{sound-by}
use Rattle.table.specs.Table.{Table}
use Rattle.table.specs.Memory.{HeldTable}
use Rattle.refusal.specs.Answer.{Answer}
use Rattle.table.specs.Check.{check_of, Sound}
use Rattle.book_judge.specs.Read.{Reading, table_in, read_of}
use Rattle.book_judge.specs.BookJudgeInner.{taken}
use Rattle.book_judge.proofs.ReadLaws.{read_done}
use Rattle.book_write.specs.Write.{Written}
use Rattle.book_write.specs.Book.{book_of}
use Rattle.book_write.specs.Write.{written, write_of}
use Rattle.book_write.proofs.WriteLaws.{write_done, wrote}
use Rattle.book_trips.proofs.ReadWriteLaws.{same_bytes}
use Rattle.book_trips.proofs.WriteReadLaws.{same-table}

-- the table of a reading
abbrev table_of : Reading → Table
table_of r = r.table

-- ---- a book that is read: its table is sound, and has the book's bytes
module _ (s : List ℕ) (b : Bytes s) (t : Table) (e : read_of s ≡ taken t) where
  is-done : (read_of s).number ≡ 0
  is-done = ap (λ (r : Reading). r.number) e

  table_in_lem : table_in s ≡ t
  table_in_lem = ap table_of (sym (read_done s is-done).reading ∙ e)

  read-sound : (check_of t).number ≡ 0
  read-sound =
      ap (λ (u : Table). (check_of u).number) (sym table_in_lem)
      ∙ ap (λ (a : Answer). a.number) (read_done s is-done).sound.checked

  read-book : book_of t ≡ s
  read-book = ap book_of (sym table_in_lem) ∙ same_bytes s b is-done

  -- a book that is read done with table t is what a write of t gives, byte for byte
  pub read-write : (d : List ℕ) → length s ≤ length d → write_of t d ≡ (written 0 255 (length s), put d 0 s)
  read-write d l =
      write_done t d read-sound (rw read-book l)
      ∙ ap (λ (bs : List ℕ). (written 0 255 (length bs), put d 0 bs)) read-book

-- ---- a table that is written: its bytes are read, and give the table

-- a write of t that is done with the bytes s gives a book that is read done with exactly t
pub write_read : (t : Table) → HeldTable t → (d s : List ℕ) → write_of t d ≡ (written 0 255 (length s), put d 0 s)
    → read_of s ≡ taken t
write_read t held d s e =
    let w = wrote t d (ap (λ (x : Written × List ℕ). x.0.number) e) in
    let f = sym w.is ∙ e in
    let same : book_of t ≡ s =
    sym (put_front d (book_of t)) ∙ ((λ k. take (f k).0.length (f k).1) ∙ put_front d s) in
    ap read_of (sym same) ∙ same-table t (sound-by t w.checked) held

-- ---- what follows

-- two different sound tables never have the same bytes
pub tables_differ : (t u : Table) → HeldTable t → HeldTable u → Sound t → Sound u → book_of t ≡ book_of u → t ≡ u
tables_differ t u ht hu st su e = ap table_of (sym (same-table t st ht) ∙ (ap read_of e ∙ same-table u su hu))

-- two different books that are both read never give the same table
pub books_differ : (s r : List ℕ) → Bytes s → Bytes r → (read_of s).number ≡ 0 → (read_of r).number ≡ 0
    → (read_of s).table ≡ (read_of r).table → s ≡ r
books_differ s r bs br ds dr e =
    let of : (x : List ℕ) → Bytes x → (read_of x).number ≡ 0 → book_of (read_of x).table ≡ x =
    λ x b d. ap (λ (y : Reading). book_of y.table) (read_done x d).reading ∙ same_bytes x b d in
    sym (of s bs ds) ∙ (ap book_of e ∙ of r br dr)
