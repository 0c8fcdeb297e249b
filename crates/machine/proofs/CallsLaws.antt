-- What the calls on a table tell, and what they may count on where it is sound.
use Rattle.machine_spec.proofs.StepLaws.{told-table, told-own, told-done}
use Rattle.machine_spec.proofs.RunLaws.{run-table, run_11, run_is}
use Rattle.machine_step.proofs.TurnLaws.{few-at, bad-by}

pub ruleset calls = (told-table, told-own, told-done, run-table, run_11, run_is, few-at, bad-by)
