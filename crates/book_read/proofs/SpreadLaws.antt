-- The bytes of a slot are the bytes of a body, with zeros after each part.
use mathlib.Core.Path.{◌≡◌, refl, sym, ap, ap₂, ◌∙◌}
use mathlib.Core.List.{List, [], ◌∷◌, ◌++◌, append_assoc}
use Prim.Native.Nat.{ℕ, zero, suc, ◌+◌, ◌-◌, ◌*◌, ◌≤◌}
use native.Mathlib.Omega.{arith}
use native.Mathlib.Nat.{one-mul}
use lib.ListN.{length, get_or, take, drop, replicate, length-append, length-drop, length-replicate}
use lib.Seq.{length-take-le}
use Rattle.little.specs.Little.{byte_at}
use Rattle.little.specs.EachByte.{Bytes}
use Rattle.little.specs.Put.{put}
use Rattle.little.proofs.PutLaws.{put_next}
use Rattle.little.proofs.StandsLaws.{stands-left, part_stands}
use Rattle.little.specs.Bytes.{u16_bytes, u32_bytes, u64_bytes, i64_bytes}
use Rattle.little.specs.Joined.{joined}
use Rattle.little.proofs.JoinedLaws.{joined-rest}
use Rattle.rule.specs.declared.Rule.{Rule}
use Rattle.rule.specs.Empty.{no_test, no_assign}
use Rattle.rule.specs.Fill.{upto}
use Rattle.rule.proofs.FillLaws.{get_or-left}
use Rattle.rule_read.specs.Parts.{test_in, assign_in, rule_of}
use Rattle.rule_read.specs.RuleReadInner.{Room}
use Rattle.rule_write.specs.Pieces.{test_bytes, tests_bytes, assign_bytes, assigns_bytes, name_bytes, head_bytes, rule_bytes}
use Rattle.rule_write.specs.RuleWriteInner.{slot_bytes}
use Rattle.rule_write.proofs.LengthsLaws.{length-tests, length-assigns, length-name, length-head}
use Rattle.rule_write.proofs.WriteBackLaws.{rule-stands, assigns_stand, name-stands}

abbrev pub zero_bytes : ℕ → List ℕ
zero_bytes n = replicate n 0

-- one by one is in runs of one
upto-joined : (n : ℕ) (f : ℕ → ℕ) → upto n f ≡ joined n (λ j. f j ∷ [])
unfolding joined
upto-joined zero f = refl
upto-joined (suc n) f = ap (λ (l : List ℕ). l ++ (f n ∷ [])) (upto-joined n f)

-- ---- the parts of a slot, as they are read

zero_test : test_bytes no_test ≡ zero_bytes 12
unfolding test_bytes u16_bytes u32_bytes u64_bytes i64_bytes
zero_test = refl

zero-assign : assign_bytes no_assign ≡ zero_bytes 20
unfolding assign_bytes u16_bytes u32_bytes u64_bytes i64_bytes
zero-assign = refl

-- n bytes of s from p on, and zeros up to the room
abbrev padded : List ℕ → ℕ → ℕ → ℕ → List ℕ
padded s p n room = take n (drop p s) ++ zero_bytes (room - n)

length-padded : (s : List ℕ) (p n room : ℕ) → n ≤ room → p + n ≤ length s → length (padded s p n room) ≡ room
length-padded s p n room l h =
    let e : length (take n (drop p s)) ≡ n = length-take-le n (drop p s) (omega (arith, length-drop p s)) in
    omega (arith, length-append (take n (drop p s)) (zero_bytes (room - n)), length-replicate {A = ℕ} (room - n) 0)

-- the same of the bytes from p to e
pub padded-part : (s : List ℕ) (p e n room : ℕ) → e ≡ p + n → e ≤ length s
    → take (e - p) (drop p s) ++ zero_bytes (room - length (take (e - p) (drop p s))) ≡ padded s p n room
padded-part s p e n room q h =
    let w : e - p ≡ n = omega arith in
    let l : length (take (e - p) (drop p s)) ≡ n = length-take-le (e - p) (drop p s) (omega (arith, length-drop p s)) ∙ w in
    ap₂ (λ (k x : ℕ). take k (drop p s) ++ zero_bytes (room - x)) w l

module _ (s : List ℕ) (b : Bytes s) (p t a m : ℕ) (room : Room s p t a m) where
  abbrev rule : Rule
  rule = rule_of s p t a m

  tests : tests_bytes rule.tests 8 ≡ tests_bytes rule.tests t ++ zero_bytes (12 * (8 - t))
  unfolding tests_bytes
  tests =
      joined-rest 12 8 t (λ j. test_bytes (get_or rule.tests j no_test)) room.tests
      (λ j h l. ap test_bytes (get_or-left 8 no_test (λ x. test_in s (p + 12 + 12 * x)) t no_test j h l) ∙ zero_test)

  assigns : assigns_bytes rule.assigns 8 ≡ assigns_bytes rule.assigns a ++ zero_bytes (20 * (8 - a))
  unfolding assigns_bytes
  assigns =
      joined-rest 20 8 a (λ j. assign_bytes (get_or rule.assigns j no_assign)) room.assigns
      (λ j h l. ap assign_bytes (get_or-left 8 no_assign (λ x. assign_in s (p + 12 + 12 * t + 20 * x)) a no_assign j h l) ∙ zero-assign)

  letters : name_bytes rule.name 16 ≡ name_bytes rule.name m ++ zero_bytes (16 - m)
  unfolding name_bytes
  letters =
      let f : ℕ → ℕ = λ j. get_or rule.name j 0 in
      upto-joined 16 f
      ∙ joined-rest 1 16 m (λ j. f j ∷ []) room.letters
      (λ j h l. ap (λ (x : ℕ). x ∷ []) (get_or-left 16 0 (λ x. byte_at s (p + 12 + 12 * t + 20 * a + x)) m 0 j h l))
      ∙ ap₂ (λ (x : List ℕ) (k : ℕ). x ++ zero_bytes k) (sym (upto-joined m f)) (one-mul (16 - m))

  front : head_bytes rule ++ tests_bytes rule.tests t ≡ take (12 + 12 * t) (drop p s)
  unfolding rule_bytes
  front =
      let h = head_bytes rule ++ tests_bytes rule.tests t in
      let k = h ++ assigns_bytes rule.assigns a in
      part_stands s p (12 + 12 * t) h
      (length-append (head_bytes rule) (tests_bytes rule.tests t) ∙ rw (length-head, length-tests))
      (stands-left s p h (assigns_bytes rule.assigns a)
      (stands-left s p k (name_bytes rule.name m) (rule-stands s b p t a m room)))

  middle : assigns_bytes rule.assigns a ≡ take (20 * a) (drop (p + 12 + 12 * t) s)
  middle =
      part_stands s (p + 12 + 12 * t) (20 * a) (assigns_bytes rule.assigns a) (length-assigns rule.assigns a)
      (assigns_stand s b (p + 12 + 12 * t) a (omega (arith, room.inside)))

  back : name_bytes rule.name m ≡ take m (drop (p + 12 + 12 * t + 20 * a) s)
  back =
      part_stands s (p + 12 + 12 * t + 20 * a) m (name_bytes rule.name m) (length-name rule.name m)
      (name-stands s b (p + 12 + 12 * t + 20 * a) m (omega (arith, room.inside)))

  slot-parts : padded s p (12 + 12 * t) 108 ++ padded s (p + 12 + 12 * t) (20 * a) 160 ++ padded s (p + 12 + 12 * t + 20 * a) m 16
      ≡ slot_bytes rule
  unfolding rule_bytes
  slot-parts =
      let i : 12 * (8 - t) ≡ 108 - (12 + 12 * t) = omega (arith, room.tests) in
      let j : 20 * (8 - a) ≡ 160 - 20 * a = omega (arith, room.assigns) in
      let e1 : head_bytes rule ++ tests_bytes rule.tests 8 ≡ padded s p (12 + 12 * t) 108 =
      ap (λ (x : List ℕ). head_bytes rule ++ x) tests
      ∙ sym (append_assoc (head_bytes rule) (tests_bytes rule.tests t) (zero_bytes (12 * (8 - t))))
      ∙ ap₂ (λ (x : List ℕ) (y : ℕ). x ++ zero_bytes y) front i in
      let e2 : assigns_bytes rule.assigns 8 ≡ padded s (p + 12 + 12 * t) (20 * a) 160 =
      assigns ∙ ap₂ (λ (x : List ℕ) (y : ℕ). x ++ zero_bytes y) middle j in
      let e3 : name_bytes rule.name 16 ≡ padded s (p + 12 + 12 * t + 20 * a) m 16 =
      letters ∙ ap (λ (x : List ℕ). x ++ zero_bytes (16 - m)) back in
      sym (ap₂ ◌++◌ (ap₂ ◌++◌ e1 e2) e3)

  -- the three parts, one where the other ends, are the slot
  pub put-slot : (d : List ℕ) (to : ℕ) → to + 284 ≤ length d → {x y z : List ℕ} → x ≡ put d to (padded s p (12 + 12 * t) 108)
      → y ≡ put x (to + 108) (padded s (p + 12 + 12 * t) (20 * a) 160)
      → z ≡ put y (to + 268) (padded s (p + 12 + 12 * t + 20 * a) m 16) → z ≡ put d to (slot_bytes rule)
  put-slot d to fits ex ey ez =
      let q1 = padded s p (12 + 12 * t) 108 in
      let q2 = padded s (p + 12 + 12 * t) (20 * a) 160 in
      let q3 = padded s (p + 12 + 12 * t + 20 * a) m 16 in
      let l1 = length-padded s p (12 + 12 * t) 108 (omega (arith, room.tests)) (omega (arith, room.inside)) in
      let l2 = length-padded s (p + 12 + 12 * t) (20 * a) 160 (omega (arith, room.assigns)) (omega (arith, room.inside)) in
      let l3 = length-append q1 q2 in
      put_next d to (q1 ++ q2) (put_next d to q1 ex (omega arith) (to + 108) (omega arith) q2 ey)
      (omega arith) (to + 268) (omega arith) q3 ez
      ∙ ap (put d to) slot-parts
