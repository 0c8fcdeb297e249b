-- What only contracts of inner functions of `game` cite.
use Rattle.std.specs.Prelude.{◌≡◌, ℕ, ◌-◌, ◌<◌}
use Rattle.table.specs.Table.{Table}
use Rattle.machine_spec.specs.declared.State.{State}
use Rattle.machine_spec.specs.Step.{step_of}
use Rattle.machine_spec.specs.Run.{later, run_of}

-- the step on r is done, and the run goes on after it with one less of the budget
pub record Due (t : Table) (s : State) (left r : ℕ) : Type 0 where
  pub some_left : 0 < left
  pub done : (step_of t s r).number ≡ 0
  pub more : run_of t s left ≡ later 1 (run_of t (step_of t s r).state (left - 1))
