use mathlib.Core.Path.{refl}
use Rattle.mask.proofs.AnyLaws.{some_of_any}
use Rattle.rule_check.specs.RuleCheckInner.{taken_at}
use borrow.Author.Rules.{rules}
use Rattle.rule_check.proofs.any_target_taken.Goals as goal

pub returns : goal.returns
returns c = some_of_any c.args.a (taken_at c.args.s.now c.args.p) _ _ c.any.result refl c.any.ensures.ran (λ x b q k. search rules)
