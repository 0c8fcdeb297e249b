-- A body's bytes are the beginnings of its slot's three parts: head and tests, assignments, name.
use mathlib.Core.Path.{◌≡◌, refl, sym, ap, ◌∙◌}
use mathlib.Core.List.{List, [], ◌∷◌, ◌++◌}
use Prim.Native.Nat.{ℕ, ◌+◌, ◌*◌, ◌≤◌}
use native.Mathlib.Nat.{le_refl, le_trans}
use native.Mathlib.Omega.{arith}
use lib.ListN.{length, get_or, take, drop, length-append}
use Rattle.little.specs.Little.{byte_at}
use Rattle.little.specs.Put.{put}
use Rattle.little.proofs.PutLaws.{put_next}
use Rattle.little.proofs.StandsLaws.{Stands, stands-left, stands-right, stands-append, part_stands}
use Rattle.little.specs.EachByte.{Bytes}
use Rattle.little.specs.Joined.{joined}
use Rattle.little.proofs.JoinedLaws.{stands-joined, stands-each}
use Rattle.rule.specs.declared.Rule.{Rule}
use Rattle.rule.specs.Empty.{no_test, no_assign}
use Rattle.rule.specs.Fill.{upto}
use Rattle.rule.proofs.FillLaws.{get_or-upto, length-upto, get_or-filled}
use Rattle.rule_read.specs.Parts.{rule_of}
use Rattle.rule_write.specs.Pieces.{test_bytes, tests_bytes, assign_bytes, assigns_bytes, name_bytes, head_bytes, rule_bytes}
use Rattle.rule_write.proofs.LengthsLaws.{length-head, length-tests, length-assigns}
use Rattle.rule_write.proofs.WriteBackLaws.{rule-stands, assigns_stand}
use Rattle.table.specs.Memory.{table_from}

-- the first bytes of an image are its table's sizes
pub count-from : (s : List ℕ) → byte_at s 1 ≡ (table_from s).n
unfolding table_from
count-from s = refl

pub head-from : (s : List ℕ) → 1 ∷ byte_at s 1 ∷ byte_at s 2 ∷ 0 ∷ [] ≡ 1 ∷ (table_from s).n ∷ (table_from s).k ∷ 0 ∷ []
unfolding table_from
head-from s = refl

-- of runs that stand at a place, the first t stand there
stands-first : (s : List ℕ) (i : ℕ) (f : ℕ → List ℕ) (n t : ℕ) → t ≤ n → Stands s i (joined n f) → Stands s i (joined t f)
stands-first s i f n t l h =
    stands-joined s i f (omega (arith, h.inside)) t (λ j g. stands-each s i f n h j (le_trans g l))

module _ (s : List ℕ) (b : Bytes s) (p : ℕ) (inside : p + 284 ≤ length s) where
  abbrev rule : Rule
  rule = rule_of s p 8 8 16

  slot : Stands s p (rule_bytes rule 8 8 16)
  slot = rule-stands s b p 8 8 16 (record { tests = le_refl 8; assigns = le_refl 8; letters = le_refl 16; inside = inside })

  front : Stands s p (head_bytes rule ++ tests_bytes rule.tests 8)
  unfolding rule_bytes
  front =
      let h = head_bytes rule ++ tests_bytes rule.tests 8 in
      stands-left s p h (assigns_bytes rule.assigns 8)
      (stands-left s p (h ++ assigns_bytes rule.assigns 8) (name_bytes rule.name 16) slot)

  length_front : (t : ℕ) → length (head_bytes rule ++ tests_bytes rule.tests t) ≡ 12 + 12 * t
  length_front t = length-append (head_bytes rule) (tests_bytes rule.tests t) ∙ rw (length-head, length-tests)

  -- the head and the first t tests
  tests_part : (t : ℕ) → t ≤ 8 → head_bytes rule ++ tests_bytes rule.tests t ≡ take (12 + 12 * t) (drop p s)
  unfolding tests_bytes
  tests_part t l =
      let head = head_bytes rule in
      let f : ℕ → List ℕ = λ j. test_bytes (get_or rule.tests j no_test) in
      part_stands s p (12 + 12 * t) (head ++ tests_bytes rule.tests t) (length_front t)
      (stands-append s p head (joined t f) (stands-left s p head (joined 8 f) front)
      (stands-first s (p + length head) f 8 t l (stands-right s p head (joined 8 f) front)))

  -- the first a assignments
  assigns_part : (a : ℕ) → a ≤ 8 → assigns_bytes rule.assigns a ≡ take (20 * a) (drop (p + 108) s)
  unfolding assigns_bytes
  assigns_part a l =
      let q = p + 12 + 12 * 8 in
      let e : q ≡ p + 108 = omega arith in
      part_stands s q (20 * a) (assigns_bytes rule.assigns a) (length-assigns rule.assigns a)
      (stands-first s q (λ j. assign_bytes (get_or rule.assigns j no_assign)) 8 a l (assigns_stand s b q 8 (omega arith)))
      ∙ ap (λ (k : ℕ). take (20 * a) (drop k s)) e

  -- the first m letters
  name_part : (m : ℕ) → m ≤ 16 → name_bytes rule.name m ≡ take m (drop (p + 268) s)
  unfolding name_bytes
  name_part m l =
      let q = p + 12 + 12 * 8 + 20 * 8 in
      let e : q ≡ p + 268 = omega arith in
      let f : ℕ → ℕ = λ j. get_or rule.name j 0 in
      let k = length-upto m f in
      let h : Stands s q (upto m f) = record {
        inside = omega arith;
        same = λ j g.
            sym (get_or-upto m f 0 j (omega arith) ∙ get_or-filled 16 0 (λ x. byte_at s (q + x)) 16 0 j (omega arith));
      } in
      part_stands s q m (upto m f) k h ∙ ap (λ (x : ℕ). take m (drop x s)) e

  -- the three parts, one where the other ends, are the body
  pub put-body : (t a m : ℕ) → t ≤ 8 → a ≤ 8 → m ≤ 16 → (d : List ℕ) (at : ℕ) → at + (12 + 12 * t + 20 * a + m) ≤ length d
      → {x y z : List ℕ} → x ≡ put d at (take (12 + 12 * t) (drop p s))
      → y ≡ put x (at + 12 + 12 * t) (take (20 * a) (drop (p + 108) s))
      → z ≡ put y (at + 12 + 12 * t + 20 * a) (take m (drop (p + 268) s)) → z ≡ put d at (rule_bytes rule t a m)
  unfolding rule_bytes
  put-body t a m lt la lm d at room {x} {y} ex ey ez =
      let q1 = head_bytes rule ++ tests_bytes rule.tests t in
      let q2 = assigns_bytes rule.assigns a in
      let q3 = name_bytes rule.name m in
      let l1 : length q1 ≡ 12 + 12 * t = length_front t in
      let l2 : length q2 ≡ 20 * a = length-assigns rule.assigns a in
      let l3 = length-append q1 q2 in
      put_next d at (q1 ++ q2)
      (put_next d at q1 (ex ∙ ap (put d at) (sym (tests_part t lt))) (omega arith) (at + 12 + 12 * t) (omega arith) q2
      (ey ∙ ap (put x (at + 12 + 12 * t)) (sym (assigns_part a la))))
      (omega arith) (at + 12 + 12 * t + 20 * a) (omega arith) q3
      (ez ∙ ap (put y (at + 12 + 12 * t + 20 * a)) (sym (name_part m lm)))
