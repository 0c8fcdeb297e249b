-- The book of a sound table is read, and gives the same table.
use mathlib.Core.Path.{◌≡◌, sym, ap, ap₂, ◌∙◌, subst}
use mathlib.Core.List.{List, [], ◌∷◌, ◌++◌}
use mathlib.Core.Bool.{Bool, false, not, cond, ◌||◌}
use Prim.Native.Nat.{ℕ, ◌+◌, ◌*◌, ◌≤◌, ◌<◌}
use native.Mathlib.Nat.{zero-add, le_refl, le_trans}
use native.Mathlib.Omega.{arith}
use lib.Dec.{ltb, eqb}
use lib.ListN.{length, length-append}
use borrow.Author.Tests.{le-ltb, eq-eqb}
use Rattle.mask.proofs.SearchLaws.{some-none, least-none}
use Rattle.mask.proofs.FirstLaws.{passed_first}
use Rattle.graph.specs.Graph.{cyclic}
use Rattle.little.specs.Little.{byte_at}
use Rattle.little.specs.Bytes.{u16_bytes}
use Rattle.little.proofs.BytesLaws.{length_u16}
use Rattle.little.proofs.StandsLaws.{Stands, stands_self, stands-left, stands-right, stands_after}
use Rattle.little.proofs.BytesBackLaws.{u16_read}
use Rattle.little.proofs.JoinedLaws.{stands-each}
use Rattle.rule.specs.declared.Rule.{Rule}
use Rattle.rule.specs.Empty.{no_rule}
use Rattle.rule.specs.Fill.{filled}
use Rattle.rule.specs.Numbers.{not_zero}
use Rattle.rule.proofs.NumbersLaws.{unclean}
use Rattle.rule_read.specs.Parts.{rule_of}
use Rattle.rule_write.specs.Pieces.{body_bytes}
use Rattle.rule.proofs.FillLaws.{slots_are}
use Rattle.rule_write.proofs.ReadBackLaws.{rule-read}
use Rattle.table.specs.Table.{Table, rule_at, precedes_of}
use Rattle.table.specs.Memory.{HeldTable}
use Rattle.table.specs.Check.{sizes_bad, number_at, Sound}
use Rattle.table.proofs.SoundLaws.{Parts, parts, sizes-good}
use Rattle.table.specs.BodyStarts.{start_at}
use Rattle.table.proofs.BodyStartsLaws.{starts-same}
use Rattle.book_judge.specs.Read.{start_of, length_of, rule_in, table_in, number_in, first_in}
use Rattle.book_judge.specs.BookJudgeInner.{taken, n_of, k_of}
use Rattle.book_judge.specs.Read.{length_bad, head_bad, contents_bad, read_answers, read_of}
use Rattle.book_write.specs.Book.{book_of}
use Rattle.book_parts.specs.BookPartsInner.{Ready, sizes_of, entry_bytes, contents_bytes, bodies_bytes}
use Rattle.book_parts.proofs.PartsLaws.{ready, size-most, start-most, length-contents, length-bodies}
use Rattle.book_write.proofs.BookLaws.{largest, length-book}
use Rattle.rule_write.proofs.SlotsLaws.{past, empty-rule}

module _ (t : Table) (sound : Sound t) (held : HeldTable t) where
  abbrev s : List ℕ
  s = book_of t

  abbrev n : ℕ
  n = t.n

  abbrev rules : List Rule
  rules = t.rules

  good : Parts t
  good = parts t sound

  rd : Ready n rules
  rd = ready t sound

  -- ---- what stands where

  whole : Stands s 0 ((1 ∷ n ∷ t.k ∷ 0 ∷ []) ++ contents_bytes n rules n ++ bodies_bytes rules n)
  unfolding book_of
  whole = stands_self s

  front : Stands s 0 ((1 ∷ n ∷ t.k ∷ 0 ∷ []) ++ contents_bytes n rules n)
  front = stands-left s 0 ((1 ∷ n ∷ t.k ∷ 0 ∷ []) ++ contents_bytes n rules n) (bodies_bytes rules n) whole

  head : Stands s 0 (1 ∷ n ∷ t.k ∷ 0 ∷ [])
  head = stands-left s 0 (1 ∷ n ∷ t.k ∷ 0 ∷ []) (contents_bytes n rules n) front

  entry : (i : ℕ) → i < n → Stands s (4 + 4 * i) (entry_bytes n rules i)
  entry i l =
      subst (λ (k : ℕ). Stands s (4 + k) (entry_bytes n rules i)) (length-contents n rules i)
      (stands-each s 4 (entry_bytes n rules) n
      (stands-right s 0 (1 ∷ n ∷ t.k ∷ 0 ∷ []) (contents_bytes n rules n) front) i l)

  body : (i : ℕ) → i < n → Stands s (start_at n (sizes_of rules) i) (body_bytes (rule_at t i))
  body i l =
      let h : List ℕ = (1 ∷ n ∷ t.k ∷ 0 ∷ []) ++ contents_bytes n rules n in
      let e : length h ≡ 4 + 4 * n =
      length-append (1 ∷ n ∷ t.k ∷ 0 ∷ []) (contents_bytes n rules n) ∙ rw (length-contents n rules n) in
      let all = rw zero-add at (stands_after s 0 h (bodies_bytes rules n) (4 + 4 * n) e whole) in
      subst (λ (k : ℕ). Stands s k (body_bytes (rule_at t i))) (length-bodies n rules i)
      (stands-each s (4 + 4 * n) (λ j. body_bytes (rule_at t j)) n all i l)

  -- ---- the head and the contents as they are read

  n-is : n_of s ≡ n
  n-is = head.same 1 (omega arith)

  k-is : k_of s ≡ t.k
  k-is = head.same 2 (omega arith)

  start_is : (i : ℕ) → i < n → start_of s i ≡ start_at n (sizes_of rules) i
  start_is i l =
      let f = rd.few in
      u16_read s (4 + 4 * i) (start_at n (sizes_of rules) i) (omega (arith, start-most n rules rd i (omega arith)))
      (stands-left s (4 + 4 * i) (u16_bytes (start_at n (sizes_of rules) i)) (u16_bytes (sizes_of rules i)) (entry i l))

  length-is : (i : ℕ) → i < n → length_of s i ≡ sizes_of rules i
  length-is i l =
      let p : 4 + 4 * i + 2 ≡ 6 + 4 * i = omega arith in
      u16_read s (6 + 4 * i) (sizes_of rules i) (omega (arith, size-most n rules rd i l))
      (subst (λ (k : ℕ). Stands s k (u16_bytes (sizes_of rules i))) p
      (stands_after s (4 + 4 * i) (u16_bytes (start_at n (sizes_of rules) i)) (u16_bytes (sizes_of rules i)) 2
      (length_u16 (start_at n (sizes_of rules) i)) (entry i l)))

  end_is : (i : ℕ) → i ≤ n → start_at n (length_of s) i ≡ start_at n (sizes_of rules) i
  end_is i l = starts-same n (length_of s) (sizes_of rules) i (λ j h. length-is j (le_trans h l))

  -- ---- the bodies as they are read

  rule-is : (i : ℕ) → i < n → rule_of s (start_at n (sizes_of rules) i) (rule_at t i).t (rule_at t i).a (rule_at t i).m ≡ rule_at t i
  rule-is i l =
      let r = rule_at t i in
      let c = rd.counts i l in
      rule-read s (start_at n (sizes_of rules) i) r r.t r.a r.m c.tests c.assigns c.letters
      (held.rule i (omega (arith, rd.few))) (past r (good.rules i l).forms) (body i l)

  body_is : (i : ℕ) → i < n → rule_in s (start_of s i) ≡ rule_at t i
  body_is i l =
      let r = rule_at t i in
      let e = rule-is i l in
      let at = start_at n (sizes_of rules) i in
      let et : byte_at s (at + 8) ≡ r.t = ap (λ (x : Rule). x.t) e in
      let ea : byte_at s (at + 9) ≡ r.a = ap (λ (x : Rule). x.a) e in
      let em : byte_at s (at + 10) ≡ r.m = ap (λ (x : Rule). x.m) e in
      ap (rule_in s) (start_is i l) ∙ ((λ k. rule_of s at (et k) (ea k) (em k)) ∙ e)

  table_is : table_in s ≡ t
  unfolding table_in
  table_is =
      let rs = slots_are 32 no_rule no_rule (λ i. rule_in s (start_of s i)) n rules rd.few held.size body_is
      (λ i h l. empty-rule (rule_at t i) (held.rule i l) (good.slots i h l)) in
      λ k. record { n = n-is k; k = k-is k; rules = (ap (filled 32 no_rule (λ i. rule_in s (start_of s i))) n-is ∙ rs) k }

  -- ---- no number applies

  length-good : length_bad s ≡ false
  length-good =
      ap₂ ◌||◌ (le-ltb (length s) 4 (omega (arith, head.inside))) (le-ltb 9220 (length s) (largest t sound))

  head-good : head_bad s ≡ false
  head-good =
      let e0 : byte_at s 0 ≡ 1 = head.same 0 (omega arith) in
      let e3 : byte_at s 3 ≡ 0 = head.same 3 (omega arith) in
      ap₂ (λ (a b : Bool). not a || not b) (eq-eqb (byte_at s 0) 1 e0) (eq-eqb (byte_at s 3) 0 e3)

  contents-good : contents_bad s n ≡ false
  unfolding contents_bad
  contents-good =
      let end = start_at n (length_of s) in
      let e : end n ≡ length s = end_is n (le_refl n) ∙ sym (length-book t) in
      let a : ltb (length s) (4 + 4 * n) ≡ false =
      le-ltb (length s) (4 + 4 * n) (omega (arith, length-book t, length-bodies n rules n)) in
      let b = some-none n (λ i. not (eqb (start_of s i) (end i)))
      (λ i l. ap not (eq-eqb (start_of s i) (end i) (start_is i l ∙ sym (end_is i (omega arith))))) in
      rw (a, b, eq-eqb (end n) (length s) e)

  number-good : (i : ℕ) → i < n → number_in s i ≡ 0
  unfolding number_in number_at
  number-good i l =
      ap (λ (u : Table). cond (not (eqb (length_of s i) (sizes_of u.rules i))) 5 (number_at u i)) table_is
      ∙ rw (eq-eqb (length_of s i) (sizes_of rules i) (length-is i l)) (unclean n t.k rules i (rule_at t i) (good.rules i l))

  pub same-table : read_of s ≡ taken t
  unfolding read_of first_in
  same-table =
      let sizes : sizes_bad (n_of s) (k_of s) ≡ false = ap₂ sizes_bad n-is k-is ∙ sizes-good n t.k good.sizes in
      let cont : contents_bad s (n_of s) ≡ false = ap (contents_bad s) n-is ∙ contents-good in
      let acyclic : cyclic (n_of s) (precedes_of (table_in s)) ≡ false = ap₂ cyclic n-is (ap precedes_of table_is) ∙ good.acyclic in
      let none : first_in s ≡ n_of s =
      least-none (n_of s) (λ x. not_zero (number_in s x)) (λ x l. ap not_zero (number-good x (omega (arith, n-is)))) in
      let rules-good : ltb (first_in s) (n_of s) ≡ false = le-ltb (first_in s) (n_of s) (omega (arith, none)) in
      passed_first (taken (table_in s)) (read_answers s)
      (length-good, (head-good, (sizes, (cont, (rules-good, (acyclic, tt))))))
      ∙ ap taken table_is
