-- The first of the masks below n that names a record from n up.
use Rattle.std.proofs.Common.{◌∙◌, arith, rules, take}
use Rattle.mask.specs.Mask.{beyond}
use Rattle.mask.proofs.AnyLaws.{least_of_position-slice}
use Rattle.editor_check.proofs.FirstBeyondLaws.{least_at-take}
use Rattle.editor_check.proofs.first_beyond.Goals as goal

pub returns : goal.returns
returns c =
    let n = c.args.n in
    let xs = c.args.precedes.now in
    least_of_position-slice (take n xs) 0 (λ m. beyond m n) _ _ c.position.result c.iter.ensures.rest c.position.ensures.ran (λ x b q k. search rules)
    ∙ least_at-take n xs (λ m. beyond m n) (omega (arith, c.requires, c.told-precedes))
