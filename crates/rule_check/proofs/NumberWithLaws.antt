-- The number of a rule, where it is known whether an earlier rule has its name.
use mathlib.Core.Path.{◌≡◌, refl, ap}
use mathlib.Core.Bool.{Bool, false, cond}
use mathlib.Core.List.{List}
use Prim.Native.Nat.{ℕ}
use Rattle.mask.proofs.SearchLaws.{or_same}
use Rattle.mask.proofs.FirstLaws.{later_rows}
use Rattle.rule.specs.declared.Rule.{Rule}
use Rattle.rule.specs.Numbers.{counts_bad, cells_bad, forms_bad, twice, letters_bad, name_taken, rule_number}
use Rattle.rule_check.specs.RuleCheckInner.{number_with}

-- it is a rule's number after the rules before it
pub number-with : (n k : ℕ) (rules : List Rule) (i : ℕ) (r : Rule) → number_with n k (name_taken rules i r) r ≡ rule_number n k rules i r
unfolding number_with rule_number
number-with n k rules i r = refl

-- whether the name is taken matters only of a rule that 5, 7 and the letters leave
pub with-same : (n k : ℕ) (x y : Bool) (r : Rule)
    → (counts_bad r ≡ false → forms_bad r ≡ false → letters_bad r ≡ false → x ≡ y) → number_with n k x r ≡ number_with n k y r
unfolding number_with
with-same n k x y r e =
    later_rows (counts_bad r) _ _ _ (λ c. later_rows (cells_bad n k r) _ _ _ (λ d. later_rows (forms_bad r) _ _ _
    (λ f. later_rows (twice r) _ _ _ (λ t. ap (λ (b : Bool). cond b 9 0) (or_same (letters_bad r) x y (e c f))))))
