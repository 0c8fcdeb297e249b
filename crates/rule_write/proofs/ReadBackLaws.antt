-- Where the bytes of a part stand, the part is read.
use mathlib.Core.Path.{◌≡◌, ◌∙◌}
use mathlib.Core.List.{List, [], ◌∷◌, ◌++◌}
use Prim.Native.Nat.{ℕ, ◌+◌, ◌*◌, ◌≤◌, ◌<◌}
use native.Mathlib.Nat.{add_assoc}
use native.Mathlib.Omega.{arith}
use lib.ListN.{length, get_or, length-append}
use mir.Syntax.{w64}
use mir.Val.{SFits}
use Rattle.little.specs.Little.{byte_at}
use Rattle.little.specs.Bytes.{u16_bytes, u32_bytes, i64_bytes}
use Rattle.little.proofs.BytesLaws.{length_u32, length_i64}
use Rattle.little.proofs.StandsLaws.{Stands, stands-left, stands-right, stands_after}
use Rattle.little.proofs.BytesBackLaws.{byte_read, u32_read, i64_read}
use Rattle.rule.specs.declared.Test.{Test}
use Rattle.rule.specs.declared.Assign.{Assign}
use Rattle.rule.specs.declared.Rule.{Rule}
use Rattle.rule.specs.Empty.{no_test, no_assign}
use Rattle.rule.specs.Fill.{filled}
use Rattle.rule.proofs.FillLaws.{get_or-upto, length-upto, slots_are}
use Rattle.rule_read.specs.Parts.{test_in, assign_in, name_in, rule_of}
use Rattle.rule_write.specs.Pieces.{test_bytes, tests_bytes, assign_bytes, assigns_bytes, name_bytes, head_bytes, rule_bytes}
use Rattle.rule_write.proofs.LengthsLaws.{length-test, length-tests, length-assign, length-assigns}
use Rattle.rule_write.specs.HeldRule.{HeldAssign, HeldRule}
use Rattle.rule_write.proofs.HeldRuleLaws.{EmptyPast}
use Rattle.rule_write.proofs.RowsBytesLaws.{rows-read}

module _ (s : List ℕ) where
  pub test_read : (i : ℕ) (x : Test) → SFits w64 x.constant → Stands s i (test_bytes x) → test_in s i ≡ x
  unfolding test_bytes
  test_read i x held h =
      let head = x.left ∷ x.comparison ∷ x.kind ∷ x.right ∷ [] in
      let z = i64_bytes x.constant in
      let g = stands-left s i head z h in
      λ k. record {
        left = byte_read s i x.left (x.comparison ∷ x.kind ∷ x.right ∷ []) g k;
        comparison = g.same 1 (omega arith) k;
        kind = g.same 2 (omega arith) k;
        right = g.same 3 (omega arith) k;
        constant = i64_read s (i + 4) x.constant held (stands-right s i head z h) k;
      }

  pub tests-read : (i t : ℕ) (xs : List Test) → t ≤ 8 → length xs ≡ 8 → ((j : ℕ) → j < 8 → SFits w64 (get_or xs j no_test).constant)
      → ((j : ℕ) → t ≤ j → j < 8 → get_or xs j no_test ≡ no_test) → Stands s i (tests_bytes xs t)
      → filled 8 no_test (λ j. test_in s (i + 12 * j)) t ≡ xs
  unfolding tests_bytes
  tests-read i t xs l e held =
      rows-read s 8 12 no_test test_bytes (test_in s) length-test i t xs l e
      (λ j g p. test_read p (get_or xs j no_test) (held j (omega arith)))

  pub assign-read : (i : ℕ) (x : Assign) → HeldAssign x → Stands s i (assign_bytes x) → assign_in s i ≡ x
  unfolding assign_bytes
  assign-read i x held h =
      let b1 = x.target ∷ x.operation ∷ x.a ∷ x.b ∷ [] in
      let b2 = b1 ++ i64_bytes x.k in
      let b3 = b2 ++ u32_bytes x.p in
      let h3 = stands-left s i b3 (u32_bytes x.q) h in
      let h2 = stands-left s i b2 (u32_bytes x.p) h3 in
      let g = stands-left s i b1 (i64_bytes x.k) h2 in
      let n2 : length b2 ≡ 12 = simp length_i64 in
      let n3 : length b3 ≡ 16 = simp (length-append, length_i64, length_u32) in
      λ j. record {
        target = byte_read s i x.target (x.operation ∷ x.a ∷ x.b ∷ []) g j;
        operation = g.same 1 (omega arith) j;
        a = g.same 2 (omega arith) j;
        b = g.same 3 (omega arith) j;
        k = i64_read s (i + 4) x.k held.k (stands-right s i b1 (i64_bytes x.k) h2) j;
        p = u32_read s (i + 12) x.p held.p (stands_after s i b2 (u32_bytes x.p) 12 n2 h3) j;
        q = u32_read s (i + 16) x.q held.q (stands_after s i b3 (u32_bytes x.q) 16 n3 h) j;
      }

  pub assigns-read : (i a : ℕ) (xs : List Assign) → a ≤ 8 → length xs ≡ 8
      → ((j : ℕ) → j < 8 → HeldAssign (get_or xs j no_assign))
      → ((j : ℕ) → a ≤ j → j < 8 → get_or xs j no_assign ≡ no_assign) → Stands s i (assigns_bytes xs a)
      → filled 8 no_assign (λ j. assign_in s (i + 20 * j)) a ≡ xs
  unfolding assigns_bytes
  assigns-read i a xs l e held =
      rows-read s 8 20 no_assign assign_bytes (assign_in s) length-assign i a xs l e
      (λ j g p. assign-read p (get_or xs j no_assign) (held j (omega arith)))

  pub name-read : (i m : ℕ) (xs : List ℕ) → m ≤ 16 → length xs ≡ 16 → ((j : ℕ) → m ≤ j → j < 16 → get_or xs j 0 ≡ 0)
      → Stands s i (name_bytes xs m) → name_in s i m ≡ xs
  unfolding name_bytes
  name-read i m xs l e rest h =
      slots_are 16 0 0 (λ j. byte_at s (i + j)) m xs l e
      (λ j g. h.same j (omega (arith, length-upto m (λ x. get_or xs x 0))) ∙ get_or-upto m (λ x. get_or xs x 0) 0 j g)
      rest

  -- a rule with nothing past its room
  pub rule-read : (i : ℕ) (r : Rule) (t a m : ℕ) → t ≤ 8 → a ≤ 8 → m ≤ 16 → HeldRule r → EmptyPast r t a m
      → Stands s i (rule_bytes r t a m) → rule_of s i t a m ≡ r
  unfolding rule_bytes head_bytes u32_bytes u16_bytes
  rule-read i r t a m lt la lm held past h =
      let h1 = u32_bytes r.watch in
      let h2 = h1 ++ u32_bytes r.precedes in
      let b1 = head_bytes r in
      let b2 = b1 ++ tests_bytes r.tests t in
      let b3 = b2 ++ assigns_bytes r.assigns a in
      let e2 : length b2 ≡ 12 + 12 * t = length-append b1 (tests_bytes r.tests t) ∙ rw length-tests in
      let e3 : length b3 ≡ 12 + 12 * t + 20 * a =
      length-append b2 (assigns_bytes r.assigns a) ∙ rw (e2, length-assigns) in
      let p3 : i + 12 + 12 * t + 20 * a ≡ i + (12 + 12 * t + 20 * a) = omega arith in
      let s3 = stands-left s i b3 (name_bytes r.name m) h in
      let s2 = stands-left s i b2 (assigns_bytes r.assigns a) s3 in
      let s1 = stands-left s i b1 (tests_bytes r.tests t) s2 in
      let masks = stands-left s i h2 (r.t ∷ r.a ∷ r.m ∷ r.zero ∷ []) s1 in
      λ k. record {
        watch = u32_read s i r.watch held.watch (stands-left s i h1 (u32_bytes r.precedes) masks) k;
        precedes = u32_read s (i + 4) r.precedes held.precedes
            (stands-right s i h1 (u32_bytes r.precedes) masks) k;
        t = s1.same 8 (omega arith) k;
        a = s1.same 9 (omega arith) k;
        m = s1.same 10 (omega arith) k;
        zero = s1.same 11 (omega arith) k;
        tests = tests-read (i + 12) t r.tests lt held.tests held.test past.test
            (stands-right s i b1 (tests_bytes r.tests t) s2) k;
        assigns = assigns-read (i + 12 + 12 * t) a r.assigns la held.assigns held.assign past.assign
            (rw add_assoc (stands_after s i b2 (assigns_bytes r.assigns a) (12 + 12 * t) e2 s3)) k;
        name = name-read (i + 12 + 12 * t + 20 * a) m r.name lm held.name past.letter
            (rw p3 (stands_after s i b3 (name_bytes r.name m) (12 + 12 * t + 20 * a) e3 h)) k;
      }
