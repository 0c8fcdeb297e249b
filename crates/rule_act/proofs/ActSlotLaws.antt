-- The parts of a rule where they lie, its right sides one by one, and the cells that differ, one by one.
use mathlib.Core.Path.{◌≡◌, refl, sym, ap, ap₂, ◌∙◌, subst}
use mathlib.Core.Bool.{Bool, true, false, cond, ◌&&◌, ◌||◌, or-false}
use mathlib.Core.List.{List, ◌++◌}
use Prim.Native.Nat.{ℕ, ◌+◌, ◌*◌, ◌≤◌, ◌<◌, ◌^◌}
use native.Mathlib.Nat.{lt_irrefl}
use native.Mathlib.Numerals.{add-one}
use native.Mathlib.Omega.{arith}
use lib.Dec.{eqb, lit<}
use lib.ListN.{length, set, get_or-append}
use lib.Seq.{get_or-set_same, get_or-set_other}
use lib.IntN.{ℤ, pos}
use borrow.Author.Count.{below_more}
use borrow.Author.Tests.{eqb-true}
use Rattle.mask.specs.Search.{some}
use Rattle.mask.proofs.SearchLaws.{some_same}
use Rattle.mask.specs.Mask.{has}
use Rattle.mask.proofs.BitsLaws.{has-zero}
use Rattle.mask.proofs.LoopsLaws.{mask_of-unique}
use Rattle.mask.proofs.MaskBelowLaws.{has-mask_of}
use Rattle.rule.specs.declared.Rule.{Rule}
use Rattle.rule.specs.Empty.{no_test, no_assign}
use Rattle.rule.proofs.FillLaws.{get_or-filled}
use Rattle.rule.specs.Uses.{test_at, assign_at}
use Rattle.rule_read.specs.Parts.{test_in, assign_in}
use Rattle.rule_sums.specs.Sums.{at, value_of, differs}
use Rattle.rule.specs.Numbers.{out_of_range}
use Rattle.rule_act.specs.Amounts.{any_out, stored_by}
use Rattle.rule_act.specs.RuleActInner.{changes, changed_cells, Steppable, slot_rule, SidesSoFar, RightSides, Put, Stored}
use Rattle.rule_act.proofs.AmountsLaws.{at_set, length-stored, stored_next}
use Rattle.rule_sums.proofs.PenceLaws.{alike}

-- test j and assignment j
module _ (s : List ℕ) (i j : ℕ) (l : j < 8) where
  pub test_in_lem : test_in s (i + 12 + 12 * j) ≡ test_at (slot_rule s i) j
  test_in_lem = sym (get_or-filled 8 no_test (λ x. test_in s (i + 12 + 12 * x)) 8 no_test j l)

  pub assign_in_lem : assign_in s (i + 108 + 20 * j) ≡ assign_at (slot_rule s i) j
  assign_in_lem =
      ap (assign_in s) (omega arith)
      ∙ sym (get_or-filled 8 no_assign (λ x. assign_in s (i + 12 + 12 * 8 + 20 * x)) 8 no_assign j l)

-- one right side more
module _ (r : Rule) (before : List ℤ) where
  pub sides-more : (n : ℕ) (values : List ℤ) (v : ℤ) → n < length values → v ≡ value_of (assign_at r n) before
      → SidesSoFar r before n values → SidesSoFar r before (n + 1) (set values n v)
  sides-more n values v l e h =
      record {
        each = below_more (λ j. at (set values n v) j ≡ value_of (assign_at r j) before) n
            (λ j m. get_or-set_other values n j v (pos 0) (λ z. lt_irrefl j (omega arith)) ∙ h.each j m)
            (get_or-set_same values n v (pos 0) l ∙ e);
      }

  -- all of them, with whatever stands past them in the row
  pub sides-all : (n : ℕ) (values rest : List ℤ) (bad : Bool) → length values ≡ r.a → r.a ≤ n → SidesSoFar r before n values
      → bad ≡ some (length values) (λ j. out_of_range (at values j)) → RightSides r before (values ++ rest) bad
  unfolding any_out
  sides-all n values rest bad e m h found =
      record {
        out =
            found
            ∙ (ap (λ (k : ℕ). some k (λ j. out_of_range (at values j))) e
            ∙ some_same r.a (λ j. out_of_range (at values j)) (λ j. out_of_range (value_of (assign_at r j) before))
            (λ j l. ap out_of_range (h.each j (omega arith))));
        sides = record { each = λ j l. get_or-append values rest (pos 0) j (omega arith) ∙ h.each j (omega arith) };
      }

-- cells that hold what they held differ nowhere
pub changed-none : (before : List ℤ) → 0 ≡ changed_cells before before
changed-none before =
    mask_of-unique 32 (changes before before) 0 (lit< tt) (λ c l. has-zero c ∙ sym (alike (at before c)))

-- one cell more that is set: it held what it held before
module _ (before after : List ℤ) (c : ℕ) (v : ℤ) (long : length after ≡ 32) (kept : at after c ≡ at before c) where
  pub changed-more : (m q : ℕ) → m ≡ changed_cells before after → q < 2 ^ 32
      → ((k : ℕ) → has q k ≡ (has m k || (eqb k c && differs (at after c) v))) → q ≡ changed_cells before (set after c v)
  changed-more m q e small h =
      mask_of-unique 32 (changes before (set after c v)) q small
      (λ k l.
      h k
      ∙ ap (λ (b : Bool). b || (eqb k c && differs (at after c) v))
      (ap (λ (x : ℕ). has x k) e ∙ has-mask_of (changes before after) k l)
      ∙ pick k (eqb k c) refl
      ∙ ap (differs (at before k)) (sym (at_set after c k v (subst (λ (n : ℕ). k < n) (sym long) l))))
    where
      pick : (k : ℕ) (b : Bool) → eqb k c ≡ b
          → (changes before after k || (b && differs (at after c) v)) ≡ differs (at before k) (cond b v (at after k))
      pick k true q =
          let z : k ≡ c = eqb-true k c q in
          ap₂ (λ (x y : Bool). x || y)
          (ap (λ (x : ℕ). changes before after x) z ∙ ap (differs (at before c)) kept ∙ alike (at before c))
          (ap (λ (x : ℤ). differs x v) (kept ∙ ap (at before) (sym z)))
      pick k false q = or-false (changes before after k)

-- no target yet, and one more: none is passed twice, so it still held what it held before
module _ (r : Rule) (before : List ℤ) where
  pub stored-none : Stored r before 0 before 0
  unfolding stored_by
  stored-none = record { cells = refl; mask = changed-none before }

  module _ (long : length before ≡ 32) (ready : Steppable r) (j : ℕ) (l : j < r.a) where
    abbrev target : ℕ
    target = (assign_at r j).target

    abbrev value : ℤ
    value = value_of (assign_at r j) before

    pub stored_one : (cells after : List ℤ) (m q : ℕ) → q < 2 ^ 32 → Stored r before j cells m
        → Put cells target value m after q → Stored r before (j + 1) after q
    unfolding stored_by
    stored_one cells after m q small h p =
        record {
          cells =
              p.cells ∙ ap (λ (x : List ℤ). set x target value) h.cells
              ∙ ap (stored_by r.assigns before) (sym (add-one j));
          mask =
              changed-more before cells target value (ap length h.cells ∙ length-stored r.assigns before j ∙ long)
              (ap (λ (x : List ℤ). at x target) h.cells
              ∙ stored_next r before ready.apart j l (subst (λ (n : ℕ). target < n) (sym long) (ready.targets j l)))
              m q h.mask small p.mask
              ∙ ap (changed_cells before) (sym p.cells);
        }

-- one cell alone is set
pub put_one : (before after : List ℤ) (c : ℕ) (v : ℤ) (q : ℕ) → length before ≡ 32 → q < 2 ^ 32 → Put before c v 0 after q
    → q ≡ changed_cells before after
put_one before after c v q long small p =
    changed-more before before c v long refl 0 q (changed-none before) small p.mask ∙ ap (changed_cells before) (sym p.cells)
