-- What only contracts of inner functions of `rule_check` cite: 5 to 9 of a rule by the bytes where it lies.
use Rattle.std.specs.Prelude.{◌≡◌, false, Bool, not, ◌&&◌, ◌||◌, cond, List, ℕ, ◌+◌, ◌≤◌, ◌*◌, ltb, eqb, nat_eq}
use Rattle.std.specs.List.{list_any}
use Rattle.std.specs.Cmp.Lexicographic.{pointwise}
use Rattle.mask.specs.Search.{some}
use Rattle.mask.specs.First.{first_of}
use Rattle.mask.specs.Mask.{beyond}
use Rattle.little.specs.Little.{byte_at, u32_at}
use Rattle.rule.specs.declared.Rule.{Rule}
use Rattle.rule.specs.Numbers.{not_zero, counts_bad, test_cell_bad, assign_cell_bad, test_form_bad, assign_form_bad, test_slot_bad, assign_slot_bad, letter_bad, rule_numbers}
use Rattle.rule_read.specs.Parts.{test_in, assign_in, rule_of}
use Rattle.rule_read.specs.RuleReadInner.{Room}

-- the counts of the rule at i are at most t tests, a assignments and m letters
pub record Within (s : List ℕ) (i t a m : ℕ) : Type 0 where
  pub tests : byte_at s (i + 8) ≤ t
  pub assigns : byte_at s (i + 9) ≤ a
  pub letters : byte_at s (i + 10) ≤ m

-- there is room for them in the bytes, and the counts are at most that room
pub record Fitted (s : List ℕ) (i t a m : ℕ) : Type 0 where
  pub room : Room s i t a m
  pub within : Within s i t a m

-- there is room, and the counts are at most that room where 5 does not refuse them
pub record Lies (s : List ℕ) (i t a m : ℕ) : Type 0 where
  pub room : Room s i t a m
  pub counted : counts_bad (rule_of s i 0 0 0) ≡ false → Within s i t a m

-- 6 of the rule at i, with room for t tests
abbrev pub cells_in : List ℕ → ℕ → ℕ → ℕ → ℕ → Bool
cells_in s i t n k =
    beyond (u32_at s i) k || beyond (u32_at s (i + 4)) n
    || some (byte_at s (i + 8)) (λ j. test_cell_bad k (test_in s (i + 12 + 12 * j)))
    || some (byte_at s (i + 9)) (λ j. assign_cell_bad k (assign_in s (i + 12 + 12 * t + 20 * j)))

-- 7 of it: test j and assignment j, each a counted one or an empty slot, and the letters past the name
abbrev pub test_bad : List ℕ → ℕ → ℕ → ℕ → Bool
test_bad s p c j = cond (ltb j c) (test_form_bad (test_in s (p + 12 * j))) (test_slot_bad (test_in s (p + 12 * j)))

abbrev pub assign_bad : List ℕ → ℕ → ℕ → ℕ → Bool
assign_bad s p c j = cond (ltb j c) (assign_form_bad (assign_in s (p + 20 * j))) (assign_slot_bad (assign_in s (p + 20 * j)))

abbrev pub letter_left : List ℕ → ℕ → ℕ → ℕ → Bool
letter_left s p c j = not (ltb j c) && not_zero (byte_at s (p + j))

abbrev pub forms_in : List ℕ → ℕ → ℕ → ℕ → ℕ → Bool
forms_in s i t a m =
    some t (test_bad s (i + 12) (byte_at s (i + 8)))
    || some a (assign_bad s (i + 12 + 12 * t) (byte_at s (i + 9)))
    || some m (letter_left s (i + 12 + 12 * t + 20 * a) (byte_at s (i + 10)))

-- 8 of it: assignment j from p on has the target of one before it
abbrev pub taken_at : List ℕ → ℕ → ℕ → Bool
taken_at s p j = some j (λ i. eqb (byte_at s (p + 20 * i)) (byte_at s (p + 20 * j)))

abbrev pub twice_in : List ℕ → ℕ → ℕ → Bool
twice_in s i t = some (byte_at s (i + 9)) (taken_at s (i + 12 + 12 * t))

-- 9 of it, first half: a bad letter
abbrev pub letters_in : List ℕ → ℕ → ℕ → ℕ → Bool
letters_in s i t a = some (byte_at s (i + 10)) (λ j. letter_bad (byte_at s (i + 12 + 12 * t + 20 * a + j)))

-- one of the names is this one, letter by letter
unfoldable pub taken_in : List (List ℕ) → List ℕ → Bool
taken_in names name = list_any (λ x. pointwise nat_eq x name) names

-- the number of a rule whose name is `taken` by an earlier one, or is not
unfoldable pub number_with : ℕ → ℕ → Bool → Rule → ℕ
number_with n k taken r = first_of 0 (rule_numbers n k taken r)
