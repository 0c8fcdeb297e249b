-- What the call of `gwaunidor_run` ensures, of the value that was handed on.
use mathlib.Core.Path.{ap, ◌∙◌}
use lib.IntN.{ℤ}
use mir.Facts.{to_z-of_z}
use Rattle.table.specs.Memory.{table_from}
use Rattle.machine_spec.specs.Step.{post_of}
use Rattle.layout_state.specs.States.{state_from}
use Rattle.gwaunidor_run.specs.RunOut.{state_out}
use Rattle.gwaunidor.proofs.gwaunidor_post.Goals as goal

pub returns : goal.returns
returns c =
    let a = c.args in
    c.post.ensures
    ∙ ap (λ (z : ℤ). state_out (post_of (table_from a.table.now) (state_from a.state.now) a.cell z)) (to_z-of_z c.ranges.value)
