-- The step, the posting and the fresh state, as the paper says them.
use Rattle.std.specs.Prelude.{Bool, not, cond, ◌&&◌, ◌||◌, List, [], ◌∷◌, ℕ, ltb, leb, eqb, set, ℤ, Result, Ok, Err}
use Rattle.refusal.specs.declared.Refusal.{Refusal}
use Rattle.refusal.specs.RefusalNumbers.{number_of, place_of}
use Rattle.mask.specs.Search.{some}
use Rattle.mask.specs.Mask.{has, mask_of}
use Rattle.mask.specs.First.{first_of}
use Rattle.rule.specs.Uses.{watches}
use Rattle.rule.specs.Numbers.{out_of_range, not_zero}
use Rattle.table.specs.Table.{Table, rule_at}
use Rattle.table.specs.Check.{check_of, checked}
use Rattle.rule_sums.specs.Sums.{at, differs}
use Rattle.rule_act.specs.Amounts.{any_false, any_out, stored}
use Rattle.machine_spec.specs.declared.State.{State}
use Rattle.machine_spec.specs.State.{state_bad, still, zeros, waits, held_back}

-- ---- "Step on r."

-- "r stops waiting."
unfoldable pub rested : State → ℕ → State
rested s r = record { cells = s.cells; waiting = mask_of 32 (λ x. waits s x && not (eqb x r)); faults = s.faults }

-- "r gets a fault mark and no cell changes"
unfoldable pub marked : State → ℕ → State
marked s r = record { cells = s.cells; waiting = s.waiting; faults = mask_of 32 (λ x. has s.faults x || eqb x r) }

-- "each rule that watches a cell whose value now differs from before"
unfoldable pub wakes : Table → List ℤ → List ℤ → ℕ → Bool
wakes t before after x = ltb x t.n && some 32 (λ c. watches (rule_at t x) c && differs (at before c) (at after c))

-- the cells hold `after`, and each such rule "waits, r included"
unfoldable pub stored_and_woken : Table → State → List ℤ → State
stored_and_woken t s after =
    record { cells = after; waiting = mask_of 32 (λ x. waits s x || wakes t s.cells after x); faults = s.faults }

-- "If any test is false, that is all. Otherwise every right side is worked out from the amounts before the step.
-- If any is out of range, r gets a fault mark and no cell changes. Otherwise all targets are stored together"
unfoldable pub effect : Table → State → ℕ → State
effect t s r =
    cond (any_false (rule_at t r) s.cells) (rested s r)
    (cond (any_out (rule_at t r) s.cells) (marked (rested s r) r)
    (stored_and_woken t (rested s r) (stored (rule_at t r) s.cells)))

-- ---- the calls

-- a number with its place, and the state that comes back
pub record Moved : Type 0 where
  pub number : ℕ
  pub place : ℕ
  pub state : State

abbrev pub moved : ℕ → ℕ → State → Moved
moved number place s = record { number = number; place = place; state = s }

-- "a call on a table in memory first makes the writer's checks", then its own numbers, of which the first that applies is
-- given; where it is refused, `given` comes back
unfoldable pub answered : Table → List (Bool × ℕ) → State → State → Moved
answered t numbers given after =
    checked (check_of t) (λ number place. moved number place given)
    (cond (not_zero (first_of 0 numbers)) (moved (first_of 0 numbers) 255 given) (moved 0 255 after))

-- 11, "12: rule number n or more", "13: that rule isn't waiting", "14: a waiting rule goes before it"
unfoldable pub step_numbers : Table → State → ℕ → List (Bool × ℕ)
step_numbers t s r = (state_bad t s, 11) ∷ (leb t.n r, 12) ∷ (not (waits s r), 13) ∷ (held_back t s r, 14) ∷ []

unfoldable pub step_of : Table → State → ℕ → Moved
step_of t s r = answered t (step_numbers t s r) s (effect t s r)

-- 11, "16: posting to a cell from k up, or a value out of range"
unfoldable pub post_numbers : Table → State → ℕ → ℤ → List (Bool × ℕ)
post_numbers t s cell value = (state_bad t s, 11) ∷ (leb t.k cell || out_of_range value, 16) ∷ []

-- "Posting sets one cell; rules that watch it wait if its value differs from before."
unfoldable pub post_of : Table → State → ℕ → ℤ → Moved
post_of t s cell value = answered t (post_numbers t s cell value) s (stored_and_woken t s (set s.cells cell value))

-- a fresh state from 32 amounts: 11 where they do not fit, and zeros where it is refused
unfoldable pub fresh_of : Table → List ℤ → Moved
fresh_of t amounts = answered t ((state_bad t (still amounts), 11) ∷ []) zeros (still amounts)

-- what a call says that returns a state: "A refused step, posting or run gives back the state it was given"
abbrev pub moved_of : State → Result State Refusal → Moved
moved_of given (Ok s) = moved 0 255 s
moved_of given (Err e) = moved (number_of e) (place_of e) given
