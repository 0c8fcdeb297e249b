-- Cell A and cell B, each where the operation uses it.
use mathlib.Core.Path.{ap₂, ◌∙◌}
use mathlib.Core.Bool.{◌||◌, ◌&&◌}
use lib.Dec.{eqb, ltb}
use Rattle.mask.proofs.BitsLaws.{has-zero, has-or}
use Rattle.rule.specs.Uses.{uses_a, uses_b}
use Rattle.rule_uses.proofs.UsesLaws.{out_both}
use borrow.Author.Rules.{rules}
use Rattle.std.proofs.Common.{tests}
use Rattle.rule_uses.proofs.side_reads.Goals as goal

pub returns-in-Ok : goal.returns-in-Ok
returns-in-Ok c =
    let s = c.args.s in
    λ x.
    has-or c.kept.result c.kept-in-Ok.result x
    ∙ (ap₂ ◌||◌ (c.kept.ensures x ∙ ap₂ ◌&&◌ (search rules) (c.cell.ensures x))
    (c.kept-in-Ok.ensures x ∙ ap₂ ◌&&◌ (search rules) (c.cell-in-Ok.ensures x))
    ∙ out_both (ltb x 32) (uses_a s) (eqb x s.a) (uses_b s) (eqb x s.b))

pub returns-in-Err : goal.returns-in-Err
returns-in-Err c = λ x. has-zero x ∙ search (rules, tests)
