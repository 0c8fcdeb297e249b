-- What only contracts of inner functions of `rule_act` cite.
use Rattle.std.specs.Prelude.{◌≡◌, Bool, true, false, ◌||◌, ◌&&◌, List, ℕ, ◌≤◌, ◌<◌, ◌+◌, eqb, set, length, ℤ, Result, MatchResult}
use Rattle.mask.specs.Mask.{mask_of, has}
use Rattle.rule.specs.declared.Rule.{Rule}
use Rattle.rule.specs.Uses.{assign_at}
use Rattle.rule.specs.Numbers.{twice}
use Rattle.rule_read.specs.Parts.{rule_of}
use Rattle.rule_sums.specs.Sums.{at, value_of, differs}
use Rattle.rule_act.specs.Amounts.{any_out, stored_by}
use Rattle.rule_sums.specs.RuleSumsInner.{InBounds}

-- whether cell c holds another amount than before; the mask of such cells
abbrev pub changes : List ℤ → List ℤ → ℕ → Bool
changes before after c = differs (at before c) (at after c)

abbrev pub changed_cells : List ℤ → List ℤ → ℕ
changed_cells before after = mask_of 32 (changes before after)

-- the counts, the assignments' constants, and targets among the 32 cells, none of them twice
pub record Steppable (r : Rule) : Type 0 where
  pub tests : r.t ≤ 8
  pub assigns : r.a ≤ 8
  pub bounded : (j : ℕ) → j < r.a → InBounds (assign_at r j)
  pub targets : (j : ℕ) → j < r.a → (assign_at r j).target < 32
  pub apart : twice r ≡ false

-- the rule "laid out like a body with every slot present"
abbrev pub slot_rule : List ℕ → ℕ → Rule
slot_rule s i = rule_of s i 8 8 16

-- its slot lies in the bytes, and no number refuses it
pub record Slot (s : List ℕ) (i : ℕ) : Type 0 where
  pub inside : i + 284 ≤ length s
  pub ready : Steppable (slot_rule s i)

-- the row holds the rule's first n right sides, each "worked out from the amounts before the step"
pub record SidesSoFar (r : Rule) (before : List ℤ) (n : ℕ) (values : List ℤ) : Type 0 where
  pub each : (j : ℕ) → j < n → at values j ≡ value_of (assign_at r j) before

-- all of them, and whether any is out of range
pub record RightSides (r : Rule) (before values : List ℤ) (bad : Bool) : Type 0 where
  pub out : bad ≡ any_out r before
  pub sides : SidesSoFar r before r.a values

-- `Ok` has them where none is out of range, `Err` where one is
abbrev pub SidesIn : Rule → List ℤ → Result (List ℤ) (List ℤ) → Type 0
SidesIn r before found =
    MatchResult found (λ values. RightSides r before values false) (λ values. RightSides r before values true)

-- cell c holds v, and q has c beside the members of m where that differs from before
pub record Put (before : List ℤ) (c : ℕ) (v : ℤ) (m : ℕ) (after : List ℤ) (q : ℕ) : Type 0 where
  pub cells : after ≡ set before c v
  pub mask : (k : ℕ) → has q k ≡ (has m k || (eqb k c && differs (at before c) v))

-- the first n targets are stored, and m has the cells "whose value now differs from before"
pub record Stored (r : Rule) (before : List ℤ) (n : ℕ) (after : List ℤ) (m : ℕ) : Type 0 where
  pub cells : after ≡ stored_by r.assigns before n
  pub mask : m ≡ changed_cells before after
