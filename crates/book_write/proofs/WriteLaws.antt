-- A write by its cases: refused, too little room, done.
use mathlib.Core.Path.{◌≡◌, refl, sym, ap, ◌∙◌}
use mathlib.Core.List.{List, [], ◌∷◌, ◌++◌}
use mathlib.Core.Logic.{⊎_elim}
use Prim.Native.Nat.{ℕ, zero, suc, ◌+◌, ◌*◌, ◌≤◌, ◌<◌}
use native.Mathlib.Decide.{ℕ_discrete}
use native.Mathlib.Omega.{arith}
use lib.ListN.{length, length-append}
use borrow.Author.Tests.{lt-ltb, le-ltb, ne_eqb}
use Rattle.mask.proofs.SearchLaws.{lt-or_ge}
use Rattle.little.specs.Put.{put}
use Rattle.little.proofs.PutLaws.{put_next}
use Rattle.table.specs.Table.{Table}
use Rattle.table.specs.Check.{check_of}
use Rattle.table.proofs.SoundLaws.{sound-by}
use Rattle.book_write.specs.Book.{book_of}
use Rattle.book_parts.specs.BookPartsInner.{contents_bytes, bodies_bytes}
use Rattle.book_parts.proofs.PartsLaws.{length-contents}
use Rattle.book_write.proofs.BookLaws.{largest}
use Rattle.book_write.specs.Write.{Written, written, written_of, write_of, size_of}
use Rattle.std.proofs.Common.{Result, Ok, Err}
use Rattle.std.specs.Result.{result_unwrap_or}
use Rattle.refusal.specs.declared.Refusal.{Refusal}
use Rattle.refusal.specs.Answer.{Answer}
use Rattle.refusal.specs.RefusalNumbers.{answer_of}
use Rattle.refusal.proofs.RefusalLaws.{not_done, refusal_unique}

-- the length beside a refusal is 0
pub length_is : (r : Result ℕ Refusal) → result_unwrap_or r 0 ≡ (written_of r).length
length_is (Ok n) = refl
length_is (Err e) = refl

module _ (t : Table) where
  pub size-refused : ((check_of t).number ≡ 0 → ⊥) → size_of t ≡ written (check_of t).number (check_of t).place 0
  unfolding size_of
  size-refused ne = rw (ne_eqb (check_of t).number 0 ne)

  -- what the check refuses has no size, and is told as the check told it
  pub size_told : (e : Refusal) → answer_of {A = Unit {0}} (Err e) ≡ check_of t → written_of (Err e) ≡ size_of t
  size_told e told =
      ap (λ (a : Answer). written a.number a.place 0) told
      ∙ sym (size-refused (λ z. not_done e (ap (λ (a : Answer). a.number) told ∙ z)))

  pub size-done : (check_of t).number ≡ 0 → size_of t ≡ written 0 255 (length (book_of t))
  unfolding size_of
  size-done e = rw e

  module _ (d : List ℕ) where
    pub write-refused : ((check_of t).number ≡ 0 → ⊥) → write_of t d ≡ (written (check_of t).number (check_of t).place 0, d)
    unfolding write_of
    write-refused ne = rw (ne_eqb (check_of t).number 0 ne)

    module _ (e : (check_of t).number ≡ 0) where
      pub write-short : length d < length (book_of t) → write_of t d ≡ (written 18 255 0, d)
      unfolding write_of
      write-short l = rw (e, lt-ltb (length d) (length (book_of t)) l)

      pub write_done : length (book_of t) ≤ length d
          → write_of t d ≡ (written 0 255 (length (book_of t)), put d 0 (book_of t))
      unfolding write_of
      write_done l = rw (e, le-ltb (length d) (length (book_of t)) l)

    -- the head, the contents and the bodies, one after another, are the book
    pub put-book : {a b c : List ℕ} → length (book_of t) ≤ length d → a ≡ put d 0 (1 ∷ t.n ∷ t.k ∷ 0 ∷ [])
        → b ≡ put a 4 (contents_bytes t.n t.rules t.n) → c ≡ put b (4 + 4 * t.n) (bodies_bytes t.rules t.n)
        → c ≡ put d 0 (book_of t)
    unfolding book_of
    put-book l ea eb ec =
        let head : List ℕ = 1 ∷ t.n ∷ t.k ∷ 0 ∷ [] in
        let con = contents_bytes t.n t.rules t.n in
        let bod = bodies_bytes t.rules t.n in
        let n = length-contents t.n t.rules t.n in
        let m = length-append head con in
        let k = length-append (head ++ con) bod in
        put_next d 0 (head ++ con)
        (put_next d 0 head ea (omega arith) 4 (omega arith) con eb)
        (omega arith) (4 + 4 * t.n) (omega arith) bod ec

-- the three ways that a write ends
pub data Outcome (t : Table) (d : List ℕ) : Type 0 where
  refused : ((check_of t).number ≡ 0 → ⊥) → Outcome t d
  short : (check_of t).number ≡ 0 → length d < length (book_of t) → Outcome t d
  finished : (check_of t).number ≡ 0 → length (book_of t) ≤ length d → Outcome t d

pub outcome : (t : Table) (d : List ℕ) → Outcome t d
outcome t d = pick (check_of t).number refl
  where
    pick : (m : ℕ) → (check_of t).number ≡ m → Outcome t d
    pick zero e = ⊎_elim (short e) (finished e) (lt-or_ge (length d) (length (book_of t)))
    pick (suc m) e = refused (λ z. omega (arith, e, z))

abbrev number : Written × List ℕ → ℕ
number w = w.0.number

-- a write that is done: the table is sound, and the buffer had room
pub record Wrote (t : Table) (d : List ℕ) : Type 0 where
  pub checked : (check_of t).number ≡ 0
  pub room : length (book_of t) ≤ length d
  pub is : write_of t d ≡ (written 0 255 (length (book_of t)), put d 0 (book_of t))

pub wrote : (t : Table) (d : List ℕ) → (write_of t d).0.number ≡ 0 → Wrote t d
wrote t d e = pick (outcome t d)
  where
    pick : Outcome t d → Wrote t d
    pick (refused ne) = absurd (ne (sym (ap number (write-refused t d ne)) ∙ e))
    pick (short h l) = let z : ◌≡◌ {A = ℕ} 18 0 = sym (ap number (write-short t d h l)) ∙ e in absurd (omega arith)
    pick (finished h l) = record { checked = h; room = l; is = write_done t d h l }

-- ---- a refused write leaves every byte as it was, and its length is 0
module _ (t : Table) (d : List ℕ) where
  pub untouched : ((write_of t d).0.number ≡ 0 → ⊥) → ((write_of t d).1 ≡ d) × ((write_of t d).0.length ≡ 0)
  untouched ne = pick (outcome t d)
    where
      pick : Outcome t d → ((write_of t d).1 ≡ d) × ((write_of t d).0.length ≡ 0)
      pick (refused h) = rw (write-refused t d h) (refl, refl)
      pick (short h l) = rw (write-short t d h l) (refl, refl)
      pick (finished h l) = absurd (ne (ap number (write_done t d h l)))

-- ---- "The largest book is 9,220 bytes."

pub size-largest : (t : Table) → (size_of t).length ≤ 9220
size-largest t = go (ℕ_discrete (check_of t).number 0)
  where
    go : Dec ((check_of t).number ≡ 0) → (size_of t).length ≤ 9220
    go (yes e) = rw (size-done t e) (largest t (sound-by t e))
    go (no ne) = rw (size-refused t ne) (omega arith)

pub write-largest : (t : Table) (d : List ℕ) → (write_of t d).0.length ≤ 9220
write-largest t d = go (ℕ_discrete (write_of t d).0.number 0)
  where
    go : Dec ((write_of t d).0.number ≡ 0) → (write_of t d).0.length ≤ 9220
    go (yes e) = let w = wrote t d e in rw w.is (largest t (sound-by t w.checked))
    go (no ne) = omega (arith, (untouched t d ne).1)

-- the paper's answer determines what size and write return
pub written_determines : (a b : Result ℕ Refusal) → written_of a ≡ written_of b → a ≡ b
written_determines (Ok n) (Ok m) e = ap (λ (n : ℕ). Ok n) (ap (λ (w : Written). w.length) e)
written_determines (Ok n) (Err d) e = absurd (not_done d (sym (ap (λ (w : Written). w.number) e)))
written_determines (Err d) (Ok n) e = absurd (not_done d (ap (λ (w : Written). w.number) e))
written_determines (Err c) (Err d) e = ap Err (refusal_unique c d (ap (λ (w : Written). w.number) e) (ap (λ (w : Written). w.place) e))
