-- 6 to 9 of a rule are those of the bytes where it lies: the slots that are filled hold what stands there. So its number is told by
-- the bytes.
use mathlib.Core.Path.{◌≡◌, refl, sym, ap, ap₂, ◌∙◌}
use mathlib.Core.Bool.{Bool, true, false, not, ◌&&◌, ◌||◌, cond}
use mathlib.Core.List.{List}
use Prim.Native.Nat.{ℕ, ◌+◌, ◌-◌, ◌*◌, ◌≤◌, ◌<◌}
use native.Mathlib.Nat.{le_trans}
use native.Mathlib.Omega.{arith}
use lib.Dec.{eqb, ltb}
use Rattle.mask.specs.Search.{some}
use borrow.Author.Tests.{le-ltb, ltb-false, not-true}
use Rattle.mask.proofs.SearchLaws.{some_same, same_test, some_intro, some-elim, and_true_both}
use Rattle.mask.specs.Mask.{beyond}
use Rattle.rule.specs.declared.Rule.{Rule}
use Rattle.rule.specs.declared.Test.{Test}
use Rattle.rule.specs.declared.Assign.{Assign}
use Rattle.rule.specs.Empty.{no_test, no_assign}
use Rattle.rule.specs.Uses.{assign_at}
use Rattle.rule.proofs.FillLaws.{get_or-filled, some-filled, slots_filled}
use Rattle.rule.specs.Numbers.{not_zero, test_cell_bad, assign_cell_bad, test_form_bad, assign_form_bad, test_slot_bad, assign_slot_bad, letter_bad, counts_bad, cells_bad, forms_bad, twice, letters_bad}
use Rattle.little.specs.Little.{byte_at, u32_at}
use Rattle.rule_read.specs.Parts.{test_in, assign_in, rule_of}
use Rattle.rule_check.specs.RuleCheckInner.{Fitted, Lies, cells_in, forms_in, twice_in, letters_in, number_with}

-- what is found from a on is what is found below b and not before a
pub some_past : (a b : ℕ) (f : ℕ → Bool) → some (b - a) (λ i. f (a + i)) ≡ some b (λ j. not (ltb j a) && f j)
some_past a b f = same_test (some (b - a) (λ i. f (a + i))) (some b (λ j. not (ltb j a) && f j)) there back
  where
    there : some (b - a) (λ i. f (a + i)) ≡ true → some b (λ j. not (ltb j a) && f j) ≡ true
    there e =
        let x = some-elim (b - a) (λ i. f (a + i)) e in
        some_intro b (λ j. not (ltb j a) && f j) (a + x.at) (omega (arith, x.lt)) (ap₂ (λ (u v : Bool). not u && v) (le-ltb (a + x.at) a (omega arith)) x.is)

    back : some b (λ j. not (ltb j a) && f j) ≡ true → some (b - a) (λ i. f (a + i)) ≡ true
    back e =
        let x = some-elim b (λ j. not (ltb j a) && f j) e in
        let p = and_true_both (not (ltb x.at a)) (f x.at) x.is in
        let l : a ≤ x.at = ltb-false x.at a (not-true (ltb x.at a) p.0) in
        some_intro (b - a) (λ i. f (a + i)) (x.at - a) (omega (arith, l, x.lt)) (ap f (omega (arith, l)) ∙ p.1)

module _ (s : List ℕ) (i t a m : ℕ) (h : Fitted s i t a m) where
  abbrev rule : Rule
  rule = rule_of s i t a m

  abbrev ct : ℕ
  ct = byte_at s (i + 8)

  abbrev ca : ℕ
  ca = byte_at s (i + 9)

  abbrev cm : ℕ
  cm = byte_at s (i + 10)

  abbrev test : ℕ → Test
  test j = test_in s (i + 12 + 12 * j)

  abbrev assign : ℕ → Assign
  assign j = assign_in s (i + 12 + 12 * t + 20 * j)

  abbrev letter : ℕ → ℕ
  letter j = byte_at s (i + 12 + 12 * t + 20 * a + j)

  pub cells-by : (n k : ℕ) → cells_in s i t n k ≡ cells_bad n k rule
  unfolding cells_bad
  cells-by n k =
      sym (ap₂ (λ (x y : Bool). beyond (u32_at s i) k || beyond (u32_at s (i + 4)) n || x || y)
      (some-filled 8 no_test test t ct (test_cell_bad k) h.within.tests)
      (some-filled 8 no_assign assign a ca (assign_cell_bad k) h.within.assigns))

  pub forms-by : forms_in s i t a m ≡ forms_bad rule
  unfolding forms_bad
  forms-by =
      let tests = slots_filled 8 no_test test t ct (λ b x. cond b (test_form_bad x) (test_slot_bad x))
      h.room.tests h.within.tests refl in
      let assigns = slots_filled 8 no_assign assign a ca (λ b x. cond b (assign_form_bad x) (assign_slot_bad x))
      h.room.assigns h.within.assigns refl in
      let letters = slots_filled 16 0 letter m cm (λ b x. not b && not_zero x) h.room.letters h.within.letters refl in
      sym (ap₂ ◌||◌ (ap₂ ◌||◌ tests assigns) letters)

  pub twice-by : twice_in s i t ≡ twice rule
  unfolding twice
  twice-by =
      let at : (j : ℕ) → j < ca → assign_at rule j ≡ assign j =
      λ j l. get_or-filled 8 no_assign assign a no_assign j (le_trans l h.within.assigns) in
      sym (some_same ca (λ j. some j (λ x. eqb (assign_at rule x).target (assign_at rule j).target))
      (λ j. some j (λ x. eqb (assign x).target (assign j).target))
      (λ j l.
      some_same j (λ x. eqb (assign_at rule x).target (assign_at rule j).target) (λ x. eqb (assign x).target (assign j).target)
      (λ x g. ap₂ (λ (y z : Assign). eqb y.target z.target) (at x (omega arith)) (at j l))))

  pub letters-by : letters_in s i t a ≡ letters_bad rule
  unfolding letters_bad
  letters-by = sym (some-filled 16 0 letter m cm letter_bad h.within.letters)

module _ (s : List ℕ) (at t a m n k : ℕ) (taken : Bool) (lies : Lies s at t a m) where
  -- the number by the tests of the bytes, where 5 is one of them
  abbrev pub in_bytes : Bool → ℕ
  in_bytes five =
      cond five 5
      (cond (cells_in s at t n k) 6
      (cond (forms_in s at t a m) 7 (cond (twice_in s at t) 8 (cond (letters_in s at t a || taken) 9 0))))

  -- past 5 the counts are in bounds, so that the other tests are those of the rule
  pub numbered : number_with n k taken (rule_of s at t a m) ≡ in_bytes (counts_bad (rule_of s at 0 0 0))
  unfolding number_with counts_bad
  numbered = go (counts_bad (rule_of s at 0 0 0)) refl
    where
      go : (b : Bool) → counts_bad (rule_of s at 0 0 0) ≡ b → number_with n k taken (rule_of s at t a m) ≡ in_bytes b
      go true h = rw h
      go false h =
          let f : Fitted s at t a m = record { room = lies.room; within = lies.counted h } in
          rw (h, cells-by s at t a m f n k, forms-by s at t a m f, twice-by s at t a m f, letters-by s at t a m f)
