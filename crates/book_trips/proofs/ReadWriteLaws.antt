-- The table of a book that is read has exactly the book's bytes.
use mathlib.Core.Path.{◌≡◌, refl, sym, ap, ◌∙◌, subst}
use mathlib.Core.List.{List, [], ◌∷◌, ◌++◌}
use mathlib.Core.Bool.{not}
use Prim.Native.Nat.{ℕ, ◌+◌, ◌*◌, ◌≤◌, ◌<◌}
use native.Mathlib.Nat.{zero-add, le_refl, le_trans}
use native.Mathlib.Omega.{arith}
use lib.Dec.{eqb}
use lib.ListN.{length, get_or, length-append}
use borrow.Author.Tests.{eqb-true, not-false}
use Rattle.mask.proofs.SearchLaws.{or_false_both}
use Rattle.little.specs.Little.{byte_at}
use Rattle.little.specs.Bytes.{u16_bytes}
use Rattle.little.proofs.BytesLaws.{length_u16}
use Rattle.little.proofs.StandsLaws.{Stands, stands_4, stands_then, stands-whole}
use Rattle.little.specs.EachByte.{Bytes}
use Rattle.little.proofs.BytesBackLaws.{u16_stands}
use Rattle.little.proofs.JoinedLaws.{stands-joined}
use Rattle.rule.specs.declared.Rule.{Rule}
use Rattle.rule.specs.Empty.{no_rule}
use Rattle.rule.proofs.FillLaws.{get_or-filled}
use Rattle.rule_write.specs.Pieces.{body_bytes}
use Rattle.rule_write.proofs.WriteBackLaws.{rule-stands}
use Rattle.table.proofs.SoundLaws.{parts}
use Rattle.table.specs.BodyStarts.{body_size, start_at}
use Rattle.table.proofs.BodyStartsLaws.{starts-same}
use Rattle.book_judge.specs.Read.{start_of, length_of, table_in, read_of}
use Rattle.book_judge.proofs.InsideLaws.{Fitting, fitting, inside, Counts, counts, room}
use Rattle.book_judge.proofs.ReadLaws.{Taken, read_done}
use Rattle.book_judge.specs.BookJudgeInner.{n_of, k_of, body_in}
use Rattle.book_write.specs.Book.{book_of}
use Rattle.book_parts.specs.BookPartsInner.{sizes_of, entry_bytes, contents_bytes, bodies_bytes}
use Rattle.book_parts.proofs.PartsLaws.{length-contents, length-bodies}
use Rattle.book_write.proofs.BookLaws.{length-book}

module _ (s : List ℕ) (b : Bytes s) (done : (read_of s).number ≡ 0) where
  abbrev n : ℕ
  n = n_of s

  abbrev rules : List Rule
  rules = (table_in s).rules

  took : Taken s
  took = read_done s done

  few : n ≤ 32
  unfolding table_in
  few = (parts (table_in s) took.sound).sizes.rules

  fits : Fitting s n
  fits = fitting s n took.contents

  rule-at : (i : ℕ) → i < n → get_or rules i no_rule ≡ body_in s i
  unfolding table_in
  rule-at i l = get_or-filled 32 no_rule (body_in s) n no_rule i l

  counted : (i : ℕ) → i < n → Counts s i
  counted i l = counts s i (took.bodies i l)

  size-at : (i : ℕ) → i < n → sizes_of rules i ≡ length_of s i
  size-at i l = ap body_size (rule-at i l) ∙ sym (counted i l).size

  start-end : (i : ℕ) → i ≤ n → start_at n (sizes_of rules) i ≡ start_at n (length_of s) i
  start-end i l = starts-same n (sizes_of rules) (length_of s) i (λ j h. size-at j (le_trans h l))

  start-at : (i : ℕ) → i < n → start_at n (sizes_of rules) i ≡ start_of s i
  start-at i l = start-end i (omega arith) ∙ sym (fits.starts i l)

  head-stands : Stands s 0 (1 ∷ n ∷ k_of s ∷ 0 ∷ [])
  head-stands =
      let e = or_false_both (not (eqb (byte_at s 0) 1)) (not (eqb (byte_at s 3) 0)) took.head in
      stands_4 s 0 1 n (k_of s) 0 (omega (arith, fits.contents))
      (eqb-true (byte_at s 0) 1 (not-false (eqb (byte_at s 0) 1) e.0)) refl refl
      (eqb-true (byte_at s 3) 0 (not-false (eqb (byte_at s 3) 0) e.1))

  entry-stands : (i : ℕ) → i < n → Stands s (4 + 4 * i) (entry_bytes n rules i)
  entry-stands i l =
      let h = fits.contents in
      let p : 6 + 4 * i ≡ 4 + 4 * i + 2 = omega arith in
      rw (start-at i l, size-at i l)
      (stands_then s (4 + 4 * i) (u16_bytes (start_of s i)) (u16_bytes (length_of s i)) 2 (length_u16 (start_of s i))
      (u16_stands s b (4 + 4 * i) (omega arith)).stands
      (subst (λ (k : ℕ). Stands s k (u16_bytes (length_of s i))) p (u16_stands s b (6 + 4 * i) (omega arith)).stands))

  contents_stand : Stands s 4 (contents_bytes n rules n)
  contents_stand =
      stands-joined s 4 (entry_bytes n rules) (omega (arith, fits.contents)) n
      (λ i l.
      subst (λ (k : ℕ). Stands s (4 + k) (entry_bytes n rules i)) (sym (length-contents n rules i))
      (entry-stands i l))

  body-stands : (i : ℕ) → i < n → Stands s (start_of s i) (body_bytes (get_or rules i no_rule))
  body-stands i l =
      let at = start_of s i in
      rw (rule-at i l)
      (rule-stands s b at (byte_at s (at + 8)) (byte_at s (at + 9)) (byte_at s (at + 10))
      (room s i ((inside s n few fits).bodies i l) (counted i l)))

  bodies_stand : Stands s (4 + 4 * n) (bodies_bytes rules n)
  bodies_stand =
      stands-joined s (4 + 4 * n) (λ i. body_bytes (get_or rules i no_rule)) fits.contents n
      (λ i l.
      subst (λ (k : ℕ). Stands s k (body_bytes (get_or rules i no_rule)))
      (sym (length-bodies n rules i ∙ start-at i l))
      (body-stands i l))

  pub same_bytes : book_of (table_in s) ≡ s
  unfolding book_of table_in
  same_bytes =
      let head : List ℕ = 1 ∷ n ∷ k_of s ∷ 0 ∷ [] in
      let c = contents_bytes n rules n in
      let e : length (head ++ c) ≡ 4 + 4 * n = length-append head c ∙ rw (length-contents n rules n) in
      sym
      (stands-whole s (book_of (table_in s))
      (stands_then s 0 (head ++ c) (bodies_bytes rules n) (4 + 4 * n) e
      (stands_then s 0 head c 4 refl head-stands contents_stand)
      (rw zero-add bodies_stand))
      (sym (length-book (table_in s) ∙ (start-end n (le_refl n) ∙ fits.last))))
