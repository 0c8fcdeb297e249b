-- One rule over the cells' amounts: its tests, its right sides, what it stores.
use Rattle.std.specs.Prelude.{Bool, not, List, ℕ, zero, suc, get_or, set, ℤ}
use Rattle.mask.specs.Search.{some}
use Rattle.rule.specs.declared.Assign.{Assign}
use Rattle.rule.specs.declared.Rule.{Rule}
use Rattle.rule.specs.Empty.{no_assign}
use Rattle.rule.specs.Uses.{test_at, assign_at}
use Rattle.rule.specs.Numbers.{out_of_range}
use Rattle.rule_sums.specs.Sums.{holds, value_of}

-- "If any test is false, that is all."
unfoldable pub any_false : Rule → List ℤ → Bool
any_false r cells = some r.t (λ j. not (holds (test_at r j) cells))

-- "If any is out of range"
unfoldable pub any_out : Rule → List ℤ → Bool
any_out r cells = some r.a (λ j. out_of_range (value_of (assign_at r j) cells))

-- the first j targets hold their right sides, each "worked out from the amounts before the step"
unfoldable pub stored_by : List Assign → List ℤ → ℕ → List ℤ
stored_by xs before zero = before
stored_by xs before (suc j) = let x = get_or xs j no_assign in set (stored_by xs before j) x.target (value_of x before)

-- "all targets are stored together"
abbrev pub stored : Rule → List ℤ → List ℤ
stored r before = stored_by r.assigns before r.a
