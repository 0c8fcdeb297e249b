-- The run: the paper's step on the lowest-numbered eligible rule, again and again.
use Rattle.std.specs.Prelude.{cond, ℕ, zero, suc, ◌+◌, eqb, Result, Ok, Err}
use Rattle.refusal.specs.declared.Refusal.{Refusal}
use Rattle.refusal.specs.RefusalNumbers.{number_of, place_of}
use Rattle.table.specs.Table.{Table}
use Rattle.table.specs.Check.{check_of, checked}
use Rattle.machine_spec.specs.declared.State.{State}
use Rattle.machine_spec.specs.declared.End.{End}
use Rattle.machine_spec.specs.declared.End.TheVariants.{Rest, Spent}
use Rattle.machine_spec.specs.declared.Run.{Run}
use Rattle.machine_spec.specs.State.{state_bad, lowest_of}
use Rattle.machine_spec.specs.Step.{effect}

-- a number with its place, the state that comes back, and the steps taken
pub record Ran : Type 0 where
  pub number : ℕ
  pub place : ℕ
  pub state : State
  pub steps : ℕ

abbrev pub ran : ℕ → ℕ → State → ℕ → Ran
ran number place s steps = record { number = number; place = place; state = s; steps = steps }

-- n steps more
abbrev pub later : ℕ → Ran → Ran
later n x = ran x.number x.place x.state (n + x.steps)

-- "Run takes the lowest-numbered eligible rule until none waits or the budget .. is used; it reports the steps taken."
unfoldable pub runs : Table → State → ℕ → Ran
runs t s zero = ran (cond (eqb s.waiting 0) 0 15) 255 s 0
runs t s (suc budget) = cond (eqb s.waiting 0) (ran 0 255 s 0) (later 1 (runs t (effect t s (lowest_of t s)) budget))

-- the table's checks, 11, then the run: "the run reports 0 steps" where it is refused
unfoldable pub run_of : Table → State → ℕ → Ran
run_of t s budget =
    checked (check_of t) (λ number place. ran number place s 0) (cond (state_bad t s) (ran 11 255 s 0) (runs t s budget))

-- "0 | done", "15 | the budget is used and rules still wait"
abbrev pub end_number : End → ℕ
end_number Rest = 0
end_number Spent = 15

-- what a run says that is not refused
abbrev pub ran_by : Run → Ran
ran_by r = ran (end_number r.end) 255 r.state r.steps

-- what the call says: "A refused step, posting or run gives back the state it was given, and the run reports 0 steps."
abbrev pub ran_of : State → Result Run Refusal → Ran
ran_of given (Ok r) = ran_by r
ran_of given (Err e) = ran (number_of e) (place_of e) given 0
