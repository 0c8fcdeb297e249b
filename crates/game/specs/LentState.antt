-- What a call on a lent state leaves there and says: the state of the call by value, and its number with its place.
use Rattle.std.specs.Prelude.{◌≡◌}
use Rattle.refusal.specs.Answer.{Answer}
use Rattle.table.specs.Check.{answer}
use Rattle.machine_spec.specs.declared.State.{State}
use Rattle.machine_spec.specs.Step.{Moved}

abbrev pub LeftBy : Moved → State → Answer → Type 0
LeftBy m after a = (after ≡ m.state) × (a ≡ answer m.number m.place)
