-- A rule waits where it waited or its watch mask meets m.
use mathlib.Core.Path.{ap, ◌∙◌}
use mathlib.Core.Bool.{Bool, ◌||◌}
use native.Mathlib.Omega.{arith}
use lib.ListN.{get_or}
use Rattle.mask.specs.Mask.{has, meet}
use Rattle.mask.proofs.LoopsLaws.{mask_of-unique}
use Rattle.machine_step.proofs.woken.Goals as goal

pub returns : goal.returns
returns c =
    let a = c.args in
    let row = a.row.now in
    mask_of-unique 32 (λ x. has a.waiting x || meet (get_or row x 0) a.m) c.union.result (omega arith)
    (λ x l.
    c.union.ensures x
    ∙ ap (λ (b : Bool). has a.waiting x || b) (c.touching.ensures x l))
