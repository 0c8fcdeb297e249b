-- Of each answer, the code and what is left beside it.
use Rattle.std.specs.Prelude.{List, ℕ}
use Rattle.machine_spec.specs.Step.{Moved}
use Rattle.machine_spec.specs.Run.{Ran}
use Rattle.layout_state.specs.States.{state_bytes}
use Rattle.layout_code.specs.Code.{code_of}

abbrev pub state_out : Moved → ℕ × List ℕ
state_out m = (code_of m.number m.place, state_bytes m.state)

abbrev pub ran_out : Ran → ℕ × List ℕ × ℕ
ran_out x = (code_of x.number x.place, state_bytes x.state, x.steps)
