-- The run stands at this state after `steps`, and the state fits; so the lowest eligible rule is one of the table's.
use Prim.Native.Nat.{◌≤◌, ◌-◌}
use Rattle.table.specs.Memory.{table_from}
use Rattle.machine_spec.specs.State.{Fits}
use Rattle.machine_spec.proofs.RunLaws.{StandsAt}
use Rattle.machine_run.proofs.runs.Given as goal

abbrev pub invariant-loop-state : goal.invariant-loop-state
invariant-loop-state l =
    record {
      within : l.steps ≤ l.budget;
      fits : Fits (table_from l.table) l.state;
      stands : StandsAt (table_from l.table) l.initial.state l.budget l.state l.steps;
    }

abbrev pub decreases-loop-state : goal.decreases-loop-state
decreases-loop-state l = l.budget - l.steps
