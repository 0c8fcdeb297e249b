use mathlib.Core.Path.{refl}
use mathlib.Core.Bool.{cond}
use lib.Dec.{ltb}
use Prim.Native.Nat.{◌+◌, ◌*◌}
use Rattle.mask.proofs.AnyLaws.{some_of_any}
use borrow.Author.Rules.{rules}
use Rattle.rule_check.proofs.any_form_bad.Goals as goal

pub returns : goal.returns
returns g c = some_of_any c.args.room (λ j. cond (ltb j c.args.n) (g.P.Checked.form_bad (g.P.Part.held c.args.s.now (c.args.p + g.P.Part.SIZE * j))) (g.P.Checked.slot_bad (g.P.Part.held c.args.s.now (c.args.p + g.P.Part.SIZE * j)))) _ _ c.any.result refl c.any.ensures.ran (λ x b q k. search rules)
