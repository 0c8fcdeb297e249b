-- The rules of an image, one by one, and the first with a number.
use mathlib.Core.Path.{◌≡◌, refl, sym, ap, ◌∙◌}
use mathlib.Core.Bool.{Bool, true, false, not}
use mathlib.Core.List.{List, [], ◌∷◌}
use Prim.Native.Nat.{ℕ, ◌+◌, ◌*◌, ◌≤◌, ◌<◌}
use native.Mathlib.Nat.{le_refl, le_trans}
use lib.Dec.{ltb}
use lib.ListN.{length}
use borrow.Author.Tests.{lt-ltb, le-ltb, ne_eqb}
use Rattle.mask.proofs.FirstLaws.{first-passed}
use Rattle.mask.proofs.LoopsLaws.{Passed, passed_here, passed-all}
use Rattle.rule.specs.Fill.{filled}
use Rattle.rule.proofs.FillLaws.{get_or-upto}
use Rattle.rule.specs.declared.Rule.{Rule}
use Rattle.rule.specs.Empty.{no_rule}
use Rattle.rule.specs.Numbers.{not_zero, rule_number}
use Rattle.rule.proofs.NumbersLaws.{counted}
use Rattle.rule_read.specs.Parts.{rule_of}
use Rattle.rule_read.specs.RuleReadInner.{column_in}
use Rattle.rule_read.proofs.ColumnLaws.{column-same}
use Rattle.rule_read.proofs.NameReadLaws.{name-long}
use Rattle.rule_check.specs.RuleCheckInner.{Lies}
use Rattle.little.specs.Little.{byte_at, u32_at}
use Rattle.table.specs.Table.{Table, rule_at}
use Rattle.table.specs.Check.{answer, done, sizes_bad, number_at, first_bad, check_of}
use Rattle.table.specs.Memory.{table_from}
use Rattle.refusal.specs.Answer.{Answer}
use Rattle.table.specs.TableInner.{judged, slot_start, rule_from}
use Rattle.table.proofs.SoundLaws.{bad-here}

module _ (s : List ℕ) where
  pub rule-from : (i : ℕ) → i < 32 → rule_at (table_from s) i ≡ rule_from s i
  unfolding table_from
  rule-from i l = get_or-upto 32 (rule_from s) no_rule i l

  pub number-from : (i : ℕ) → i < 32
      → number_at (table_from s) i ≡ rule_number (byte_at s 1) (byte_at s 2) (table_from s).rules i (rule_from s i)
  unfolding table_from number_at
  number-from i l = ap (rule_number (byte_at s 1) (byte_at s 2) (table_from s).rules i) (rule-from i l)

  pub from-long : (i : ℕ) → length (rule_from s i).name ≡ 16
  from-long i = name-long s (slot_start i + 12 + 12 * 8 + 20 * 8) 16 (le_refl 16)

-- the masks that stand `at` bytes on in the first n slots are those of the table's rules
pub column-is : (s : List ℕ) (n : ℕ) → n ≡ byte_at s 1 → n ≤ 32 → (f : Rule → ℕ) (at : ℕ)
    → ((i : ℕ) → u32_at s (at + 284 * i) ≡ f (rule_from s i))
    → column_in s at 284 n ≡ filled 32 0 (λ i. f (rule_at (table_from s) i)) (table_from s).n
unfolding table_from
column-is s n e few f at h =
    column-same s at 284 n (λ i. f (rule_at (table_from s) i)) (λ i l. h i ∙ ap f (sym (rule-from s i (le_trans l few))))
    ∙ ap (filled 32 0 (λ i. f (rule_at (table_from s) i))) e

module _ (s : List ℕ) (i : ℕ) where
  pub slot_lies : slot_start i + 284 ≤ length s → Lies s (slot_start i) 8 8 16
  slot_lies l =
      record {
        room = record { tests = le_refl 8; assigns = le_refl 8; letters = le_refl 16; inside = l };
        counted = λ e.
            let c = counted (rule_of s (slot_start i) 0 0 0) e in
            record { tests = c.tests; assigns = c.assigns; letters = c.letters };
      }

module _ (t : Table) (i : ℕ) (h : Passed (λ x. not_zero (number_at t x)) i) where
  pub judged-here : (v : ℕ) → i < t.n → number_at t i ≡ v → (v ≡ 0 → ⊥) → judged t ≡ answer v i
  unfolding judged first_bad
  judged-here v l e ne =
      let f : first_bad t ≡ i = sym (passed_here h l (ap not_zero e ∙ ap not (ne_eqb v 0 ne))) in
      rw (f, lt-ltb i t.n l, e)

  pub judged-none : t.n ≤ i → judged t ≡ done
  unfolding judged first_bad
  judged-none l =
      let f : first_bad t ≡ t.n = sym (passed-all h l) in
      rw (f, le-ltb t.n t.n (le_refl t.n))

-- ---- what the first rule with a number says of the whole check
module _ (t : Table) where
  pub judged-good : (judged t).number ≡ 0 → ltb (first_bad t) t.n ≡ false
  unfolding judged
  judged-good z =
      (first-passed (λ (a : Answer). a.number ≡ 0) done
      ((ltb (first_bad t) t.n, answer (number_at t (first_bad t)) (first_bad t)) ∷ []) (bad-here t, tt) z).0

  pub judged-bad : sizes_bad t.n t.k ≡ false → ((judged t).number ≡ 0 → ⊥) → judged t ≡ check_of t
  unfolding judged check_of
  judged-bad s ne = pick (ltb (first_bad t) t.n) refl
    where
      pick : (b : Bool) → ltb (first_bad t) t.n ≡ b → judged t ≡ check_of t
      pick true e = rw (s, e) refl
      pick false e = absurd (ne (rw e))
