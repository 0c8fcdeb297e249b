-- A rule as a body: whether it stores, whether a right side overflows, and the cells that its action leaves.
use mathlib.Core.Path.{◌≡◌, ap₂}
use mathlib.Core.Bool.{Bool, not, cond, ◌&&◌}
use mathlib.Core.List.{List}
use lib.IntN.{ℤ}
use Rattle.rule.specs.declared.Rule.{Rule}
use Rattle.rule.specs.Uses.{reads}
use Rattle.rule_act.specs.Amounts.{any_false, any_out, stored}
use Rattle.rule_act.proofs.AmountsLaws.{Agree, any_false-local, any_out-local}

-- r stores; r gets a fault mark, since a right side is out of range; the cells that its action leaves
abbrev pub fires : Rule → List ℤ → Bool
fires r cells = not (any_false r cells) && not (any_out r cells)

abbrev pub overflows : Rule → List ℤ → Bool
overflows r cells = not (any_false r cells) && any_out r cells

abbrev pub acted : Rule → List ℤ → List ℤ
acted r cells = cond (fires r cells) (stored r cells) cells

-- both depend on the cells that r reads
module _ (r : Rule) (c d : List ℤ) (h : Agree (reads r) c d) where
  pub fires-local : fires r c ≡ fires r d
  fires-local = ap₂ (λ (a b : Bool). not a && not b) (any_false-local r c d h) (any_out-local r c d h)

  pub overflows-local : overflows r c ≡ overflows r d
  overflows-local = ap₂ (λ (a b : Bool). not a && b) (any_false-local r c d h) (any_out-local r c d h)
