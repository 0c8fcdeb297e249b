use Rattle.std.proofs.Common.{◌<◌, not, rules, arith}
use Rattle.std.proofs.lemmas.Iterator.{serves_from_Range}
use Rattle.mask.proofs.AnyLaws.{some_of_any}
use Rattle.rule.specs.Uses.{test_at}
use Rattle.rule_sums.specs.Sums.{holds}
use Rattle.rule_act.specs.Amounts.{any_false}
use Rattle.rule_act.specs.RuleActInner.{slot_rule}
use Rattle.rule_act.proofs.Placed.any_false.Goals as goal

pub any-requires-clause-callable : goal.any-requires-clause-callable
any-requires-clause-callable c = serves_from_Range (λ x q k. search rules) (λ x low high.
    let few : x < 8 = omega (arith, c.args.self.now.slot.ready.tests) in
    search rules)

pub returns : goal.returns
unfolding any_false
returns c =
    let r = slot_rule c.args.self.now.bytes.now c.args.self.now.at in
    some_of_any r.t (λ j. not (holds (test_at r j) c.args.cells.now)) _ _ c.any.result (search rules) c.any.ensures.ran (λ x b q k. search rules)
