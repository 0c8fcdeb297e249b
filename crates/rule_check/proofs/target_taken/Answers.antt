use mathlib.Core.Path.{refl}
use Prim.Native.Nat.{◌+◌, ◌*◌}
use lib.Dec.{eqb}
use Rattle.mask.proofs.AnyLaws.{some_of_any}
use Rattle.little.specs.Little.{byte_at}
use borrow.Author.Rules.{rules}
use Rattle.rule_check.proofs.target_taken.Goals as goal

pub returns : goal.returns
returns c = some_of_any c.args.j (λ i. eqb (byte_at c.args.s.now (c.args.p + 20 * i)) (byte_at c.args.s.now (c.args.p + 20 * c.args.j))) _ _ c.any.result refl c.any.ensures.ran (λ x b q k. search rules)
