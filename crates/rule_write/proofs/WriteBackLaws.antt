-- What was read has the bytes that stand there.
use mathlib.Core.Path.{◌≡◌, refl, sym, ap, ◌∙◌}
use mathlib.Core.List.{List, [], ◌∷◌, ◌++◌}
use Prim.Native.Nat.{ℕ, ◌+◌, ◌*◌, ◌≤◌}
use native.Mathlib.Omega.{arith}
use lib.ListN.{length, get_or, length-append}
use Rattle.little.specs.Little.{byte_at, u32_at, i64_at}
use Rattle.little.specs.Bytes.{u32_bytes, i64_bytes}
use Rattle.little.proofs.BytesLaws.{length_u32, length_i64}
use Rattle.little.proofs.StandsLaws.{Stands, stands_4, stands_then}
use Rattle.little.specs.EachByte.{Bytes}
use Rattle.little.proofs.BytesBackLaws.{u32_stands, i64_stands}
use Rattle.rule.specs.Empty.{no_test, no_assign}
use Rattle.rule.specs.Fill.{filled}
use Rattle.rule.proofs.FillLaws.{get_or-upto, length-upto, get_or-filled}
use Rattle.rule_read.specs.Parts.{test_in, assign_in, name_in, rule_of}
use Rattle.rule_read.specs.RuleReadInner.{Room}
use Rattle.rule_write.specs.Pieces.{test_bytes, tests_bytes, assign_bytes, assigns_bytes, name_bytes, head_bytes, rule_bytes}
use Rattle.rule_write.proofs.LengthsLaws.{length-test, length-tests, length-assign, length-assigns, length-head}
use Rattle.rule_write.proofs.RowsBytesLaws.{rows_stand}

module _ (s : List ℕ) where
  four : (i : ℕ) → i + 4 ≤ length s
      → Stands s i (byte_at s i ∷ byte_at s (i + 1) ∷ byte_at s (i + 2) ∷ byte_at s (i + 3) ∷ [])
  four i l = stands_4 s i (byte_at s i) (byte_at s (i + 1)) (byte_at s (i + 2)) (byte_at s (i + 3)) l refl refl refl refl

  module _ (b : Bytes s) where
    pub test-stands : (i : ℕ) → i + 12 ≤ length s → Stands s i (test_bytes (test_in s i))
    unfolding test_bytes
    test-stands i l =
        stands_then s i (byte_at s i ∷ byte_at s (i + 1) ∷ byte_at s (i + 2) ∷ byte_at s (i + 3) ∷ [])
        (i64_bytes (i64_at s (i + 4))) 4 refl
        (four i (omega arith))
        (i64_stands s b (i + 4) (omega arith))

    pub tests_stand : (i t : ℕ) → i + 12 * t ≤ length s → Stands s i (tests_bytes (filled 8 no_test (λ j. test_in s (i + 12 * j)) t) t)
    unfolding tests_bytes
    tests_stand = rows_stand s 8 12 no_test test_bytes (test_in s) length-test test-stands

    pub assign-stands : (i : ℕ) → i + 20 ≤ length s → Stands s i (assign_bytes (assign_in s i))
    unfolding assign_bytes
    assign-stands i l =
        let b1 = byte_at s i ∷ byte_at s (i + 1) ∷ byte_at s (i + 2) ∷ byte_at s (i + 3) ∷ [] in
        let b2 = b1 ++ i64_bytes (i64_at s (i + 4)) in
        let b3 = b2 ++ u32_bytes (u32_at s (i + 12)) in
        let n2 : length b2 ≡ 12 = simp length_i64 in
        let n3 : length b3 ≡ 16 = simp (length-append, length_i64, length_u32) in
        let s2 = stands_then s i b1 (i64_bytes (i64_at s (i + 4))) 4 refl (four i (omega arith))
        (i64_stands s b (i + 4) (omega arith)) in
        let s3 = stands_then s i b2 (u32_bytes (u32_at s (i + 12))) 12 n2 s2
        (u32_stands s b (i + 12) (omega arith)).stands in
        stands_then s i b3 (u32_bytes (u32_at s (i + 16))) 16 n3 s3 (u32_stands s b (i + 16) (omega arith)).stands

    pub assigns_stand : (i a : ℕ) → i + 20 * a ≤ length s → Stands s i (assigns_bytes (filled 8 no_assign (λ j. assign_in s (i + 20 * j)) a) a)
    unfolding assigns_bytes
    assigns_stand = rows_stand s 8 20 no_assign assign_bytes (assign_in s) length-assign assign-stands

    pub name-stands : (i m : ℕ) → i + m ≤ length s → Stands s i (name_bytes (name_in s i m) m)
    unfolding name_bytes
    name-stands i m l =
        let f : ℕ → ℕ = λ x. get_or (name_in s i m) x 0 in
        let n = length-upto m f in
        record {
          inside = omega arith;
          same = λ j h.
              sym (get_or-upto m f 0 j (omega arith) ∙ get_or-filled 16 0 (λ x. byte_at s (i + x)) m 0 j (omega arith));
        }

    pub rule-stands : (i t a m : ℕ) → Room s i t a m → Stands s i (rule_bytes (rule_of s i t a m) t a m)
    unfolding rule_bytes head_bytes
    rule-stands i t a m room =
        let r = rule_of s i t a m in
        let l = room.inside in
        let h1 = u32_bytes (u32_at s i) in
        let h2 = h1 ++ u32_bytes (u32_at s (i + 4)) in
        let b1 = head_bytes r in
        let b2 = b1 ++ tests_bytes r.tests t in
        let b3 = b2 ++ assigns_bytes r.assigns a in
        let p2 : i + (12 + 12 * t) ≡ i + 12 + 12 * t = omega arith in
        let p3 : i + (12 + 12 * t + 20 * a) ≡ i + 12 + 12 * t + 20 * a = omega arith in
        let n2 : length h2 ≡ 8 = simp (length-append, length_u32) in
        let e2 : length b2 ≡ 12 + 12 * t =
        length-append b1 (tests_bytes r.tests t) ∙ rw (length-head r, length-tests) in
        let e3 : length b3 ≡ 12 + 12 * t + 20 * a =
        length-append b2 (assigns_bytes r.assigns a) ∙ rw (e2, length-assigns) in
        let masks = stands_then s i h1 (u32_bytes (u32_at s (i + 4))) 4 (length_u32 (u32_at s i))
        (u32_stands s b i (omega arith)).stands
        (u32_stands s b (i + 4) (omega arith)).stands in
        let counts = stands_4 s (i + 8) r.t r.a r.m r.zero (omega arith) refl (ap (byte_at s) (omega arith))
        (ap (byte_at s) (omega arith)) (ap (byte_at s) (omega arith)) in
        let s1 = stands_then s i h2 (r.t ∷ r.a ∷ r.m ∷ r.zero ∷ []) 8 n2 masks counts in
        let s2 = stands_then s i b1 (tests_bytes r.tests t) 12 (length-head r) s1
        (tests_stand (i + 12) t (omega arith)) in
        let s3 = stands_then s i b2 (assigns_bytes r.assigns a) (12 + 12 * t) e2 s2
        (rw p2 (assigns_stand (i + 12 + 12 * t) a (omega arith))) in
        stands_then s i b3 (name_bytes r.name m) (12 + 12 * t + 20 * a) e3 s3
        (rw p3 (name-stands (i + 12 + 12 * t + 20 * a) m (omega arith)))
