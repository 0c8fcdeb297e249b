-- Of no set there is no member.
use mathlib.Core.Path.{◌∙◌}
use Rattle.mask.proofs.BitsLaws.{has-zero}
use Rattle.rule_uses.proofs.kept.Goals as goal

pub returns-else-b : goal.returns-else-b
returns-else-b c x = has-zero x ∙ rw c.if-b.false
