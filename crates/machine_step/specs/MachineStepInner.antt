-- What only contracts of inner functions of `machine_step` cite.
use Rattle.std.specs.Prelude.{Bool, cond, ◌&&◌, ◌||◌, List, ℕ, get_or, ℤ}
use Rattle.mask.specs.Search.{some}
use Rattle.mask.specs.Mask.{has, beyond, mask_of}
use Rattle.rule.specs.declared.Rule.{Rule}
use Rattle.rule_act.specs.Amounts.{any_false, any_out, stored}
use Rattle.rule_act.specs.RuleActInner.{changes}
use Rattle.machine_spec.specs.declared.State.{State}
use Rattle.machine_spec.specs.State.{waits, cell_bad}
use Rattle.machine_spec.specs.Step.{rested, marked}

-- 11, of a table of n rules and k cells
abbrev pub state_bad_by : ℕ → ℕ → State → Bool
state_bad_by n k s = some 32 (cell_bad k s.cells) || beyond s.waiting n || beyond s.faults n

-- the row's mask of rule x has a cell "whose value now differs from before"
abbrev pub wakes_by : List ℕ → List ℤ → List ℤ → ℕ → Bool
wakes_by row before after x = some 32 (λ c. has (get_or row x 0) c && changes before after c)

-- the cells hold `after`, and each such rule waits
unfoldable pub stored_and_woken_by : List ℕ → State → List ℤ → State
stored_and_woken_by row s after =
    record { cells = after; waiting = mask_of 32 (λ x. waits s x || wakes_by row s.cells after x); faults = s.faults }

-- the step on rule r, which is `one`
unfoldable pub effect_by : Rule → List ℕ → State → ℕ → State
effect_by one row s r =
    cond (any_false one s.cells) (rested s r)
    (cond (any_out one s.cells) (marked (rested s r) r) (stored_and_woken_by row (rested s r) (stored one s.cells)))
