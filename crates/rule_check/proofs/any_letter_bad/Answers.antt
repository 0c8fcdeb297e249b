use mathlib.Core.Path.{ap, ◌∙◌}
use Prim.Native.Nat.{ℕ, ◌+◌}
use native.Mathlib.Omega.{arith}
use lib.ListN.{get_or}
use Rattle.mask.specs.Search.{some}
use Rattle.mask.proofs.AnyLaws.{some_of_any-part}
use Rattle.rule.specs.Numbers.{letter_bad}
use borrow.Author.Rules.{rules}
use Rattle.rule_check.proofs.any_letter_bad.Goals as goal

pub returns : goal.returns
returns c =
    some_of_any-part c.args.s.now c.args.p (c.args.p + c.args.m) 0 letter_bad _ _ c.any.result c.iter.ensures.rest (omega arith) c.any.ensures.ran (λ x b q k. search rules)
    ∙ ap (λ (n : ℕ). some n (λ j. letter_bad (get_or c.args.s.now (c.args.p + j) 0))) (omega arith)
