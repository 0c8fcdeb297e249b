-- The masks of a sound table are orderly, and what the bytes of one hold.
use mathlib.Core.Path.{◌≡◌, sym, ap, ◌∙◌, subst}
use mathlib.Core.Logic.{⊎_elim}
use mathlib.Core.Bool.{Bool, ◌&&◌}
use mathlib.Core.List.{List}
use Prim.Native.Nat.{ℕ, ◌+◌, ◌*◌, ◌^◌, ◌≤◌, ◌<◌}
use native.Mathlib.Nat.{le_trans}
use native.Mathlib.Omega.{arith}
use lib.Dec.{ltb}
use lib.ListN.{get_or, length, get_or-eq_default}
use borrow.Author.Tests.{lt-ltb}
use Rattle.mask.proofs.SearchLaws.{lt-or_ge}
use Rattle.mask.specs.Mask.{has, mask_of}
use Rattle.mask.proofs.LoopsLaws.{mask_of-unique}
use Rattle.little.specs.EachByte.{Bytes}
use Rattle.little.proofs.BytesBackLaws.{u32_stands}
use Rattle.rule.specs.declared.Rule.{Rule}
use Rattle.rule.specs.Fill.{filled}
use Rattle.rule.proofs.FillLaws.{get_or-left, length-filled, is_filled}
use Rattle.rule.specs.RuleInner.{Counted}
use Rattle.rule.proofs.NumbersLaws.{counted}
use Rattle.table.specs.Table.{Table, rule_at, precedes_of}
use Rattle.table.specs.TableInner.{watches_of, slot_start, rule_from}
use Rattle.table.specs.Check.{Sound}
use Rattle.table.proofs.SoundLaws.{parts}
use Rattle.table.proofs.BeforeLaws.{precedes-rows}
use Rattle.table.specs.Memory.{table_from}
use Rattle.table.proofs.ImageLaws.{rule-from}
use Rattle.analysis_pairs.specs.AnalysisPairsInner.{masks_in}
use Rattle.analysis_masks.specs.AnalysisMasksInner.{Past, Orderly}
use Rattle.analysis.specs.TableMasks.{cells_of, masks_of}
use Rattle.little.specs.Little.{byte_at}

-- a row that is filled for n rules is 0 from n up
pub filled-past : (n : ℕ) (f : ℕ → ℕ) → n ≤ 32 → Past n (filled 32 0 f n)
filled-past n f few r l =
    ⊎_elim (get_or-left 32 0 f n 0 r l)
    (λ m.
    get_or-eq_default (filled 32 0 f n) 0 {n = r} (subst (λ (x : ℕ). x ≤ r) (sym (length-filled 32 0 f n few)) m))
    (lt-or_ge r 32)

pub masks-orderly : (t : Table) → Sound t → ((i : ℕ) → i < t.n → (rule_at t i).precedes < 2 ^ 32) → Orderly (masks_of t)
masks-orderly t s h =
    let few = (parts t s).sizes.rules in
    let rows = precedes-rows t s h in
    record {
      few = few;
      named = rows;
      watch = filled-past t.n _ few;
      reads = filled-past t.n _ few;
      writes = filled-past t.n _ few;
      precedes = filled-past t.n _ few;
    }

-- rows that are a table's own
pub rows_of_lem : (t : Table) {n : ℕ} {watch reads writes precedes : List ℕ} → n ≡ t.n → watch ≡ watches_of t → reads ≡ (masks_of t).reads
    → writes ≡ (masks_of t).writes → precedes ≡ precedes_of t → masks_in n watch reads writes precedes ≡ masks_of t
rows_of_lem t a b c d e = rw (a, b, c, d, e)

-- the cells that a test picks in a rule, as a mask of them
pub cells_is : (f : Rule → ℕ → Bool) (r : Rule) {m : ℕ} → m < 2 ^ 32 → ((x : ℕ) → has m x ≡ (ltb x 32 && f r x)) → m ≡ mask_of 32 (f r)
cells_is f r {m} small e = mask_of-unique 32 (f r) m small (λ x k. e x ∙ ap (λ (b : Bool). b && f r x) (lt-ltb x 32 k))

-- ---- the bytes of a sound table

module _ (s : List ℕ) (h : Sound (table_from s)) where
  pub few_rules : byte_at s 1 ≤ 32
  unfolding table_from
  few_rules = (parts (table_from s) h).sizes.rules

  -- how many tests and assignments a rule says that it has
  pub rule_counts : (r : ℕ) → r < byte_at s 1 → (byte_at s (4 + 284 * r + 8) ≤ 8) × (byte_at s (4 + 284 * r + 9) ≤ 8)
  unfolding table_from
  rule_counts r l =
      let n : Counted (rule_from s r) =
      subst Counted (rule-from s r (le_trans l few_rules))
      (counted (rule_at (table_from s) r) ((parts (table_from s) h).rules r l).counts) in
      (n.tests, n.assigns)

  -- the cells that a test picks in rule r
  pub cells-at : (f : Rule → ℕ → Bool) (r : ℕ) {m : ℕ} → r < byte_at s 1 → m < 2 ^ 32
      → ((x : ℕ) → has m x ≡ (ltb x 32 && f (rule_from s r) x)) → m ≡ cells_of f (table_from s) r
  cells-at f r l small e =
      cells_is f (rule_from s r) small e ∙ ap (λ (x : Rule). mask_of 32 (f x)) (sym (rule-from s r (le_trans l few_rules)))

  -- the row of a mask for each rule
  pub rule-row : (f : ℕ → ℕ) (q : List ℕ) → length q ≡ 32 → ((i : ℕ) → i < byte_at s 1 → get_or q i 0 ≡ f i)
      → ((i : ℕ) → byte_at s 1 ≤ i → get_or q i 0 ≡ 0) → q ≡ filled 32 0 f (table_from s).n
  unfolding table_from
  rule-row f q size below beyond = is_filled 32 0 f (byte_at s 1) q few_rules size below beyond

  -- its four rows are orderly: a precedes mask is of four bytes
  pub orderly_from : length s ≡ 9092 → Bytes s → Orderly (masks_of (table_from s))
  orderly_from size b =
      masks-orderly (table_from s) h
      (λ i l. narrow i (le_trans l (parts (table_from s) h).sizes.rules))
    where
      narrow : (i : ℕ) → i < 32 → (rule_at (table_from s) i).precedes < 2 ^ 32
      narrow i l =
          subst (λ (r : Rule). r.precedes < 2 ^ 32) (sym (rule-from s i l))
          (u32_stands s b (slot_start i + 4) (omega (arith, size))).small
