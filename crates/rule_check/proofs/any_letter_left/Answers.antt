-- The letters from m on, up to the room that there is, are those of the room that are not before m.
use mathlib.Core.Path.{refl, ◌∙◌}
use Prim.Native.Nat.{◌+◌}
use Rattle.mask.proofs.AnyLaws.{some_of_any_from}
use Rattle.little.specs.Little.{byte_at}
use Rattle.rule.specs.Numbers.{not_zero}
use borrow.Author.Rules.{rules}
use Rattle.rule_check.proofs.FieldsInLaws.{some_past}
use Rattle.rule_check.proofs.any_letter_left.Goals as goal

pub returns : goal.returns
returns c =
    some_of_any_from c.args.m c.args.room (λ j. not_zero (byte_at c.args.s.now (c.args.p + j))) _ _ c.any.result refl c.any.ensures.ran (λ x b q k. search rules)
    ∙ some_past c.args.m c.args.room (λ j. not_zero (byte_at c.args.s.now (c.args.p + j)))
