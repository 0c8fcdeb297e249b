-- A cell below 32 is the one member, and of one that is not there is none.
use mathlib.Core.Path.{ap, ap₂, ◌∙◌}
use mathlib.Core.Bool.{◌||◌}
use native.Mathlib.Omega.{arith}
use lib.Dec.{eqb}
use Rattle.std.proofs.lemmas.Bool.Decides.{nat_tests}
use Rattle.mask.proofs.BitsLaws.{has-zero}
use Rattle.rule_uses.proofs.cell.Goals as goal

pub returns-then-c-lt32 : goal.returns-then-c-lt32
returns-then-c-lt32 c x = c.with.ensures x ∙ ap₂ ◌||◌ (has-zero x) (ap (eqb x) c.from.ensures) ∙ grind (arith, nat_tests)

pub returns-else-c-lt32 : goal.returns-else-c-lt32
returns-else-c-lt32 c x = has-zero x ∙ grind (arith, nat_tests)
