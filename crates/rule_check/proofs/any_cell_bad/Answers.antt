use mathlib.Core.Path.{refl}
use Prim.Native.Nat.{◌+◌, ◌*◌}
use Rattle.mask.proofs.AnyLaws.{some_of_any}
use borrow.Author.Rules.{rules}
use Rattle.rule_check.proofs.any_cell_bad.Goals as goal

pub returns : goal.returns
returns g c = some_of_any c.args.n (λ j. g.P.Checked.cell_bad c.args.k (g.P.Part.held c.args.s.now (c.args.p + g.P.Part.SIZE * j))) _ _ c.any.result refl c.any.ensures.ran (λ x b q k. search rules)
