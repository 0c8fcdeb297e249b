-- Byte by byte, whether one is not 0.
use Rattle.std.proofs.Common.{◌≡◌, Bool, refl, sym, ap, ◌∙◌, subst, rules}
use mathlib.Core.Bool.{◌||◌}
use borrow.Author.Tests.{tests}
use Rattle.std.proofs.lemmas.Fn.{fold_over, slice_gives, fronts}
use Rattle.mask.specs.Search.{some}
use Rattle.rule.specs.Numbers.{not_zero}
use Rattle.table.specs.TableInner.{any_set}
use Rattle.table.proofs.TableSlotLaws.{set_push}
use Rattle.table.proofs.any_set.Goals as goal

pub returns : goal.returns
unfolding any_set some
returns c =
    subst (λ l. c.fold.result ≡ any_set l) c.iter.ensures.rest
    (fold_over fronts (λ y. y.now) _ (λ ys a. a ≡ any_set ys) _
    (λ ys a x b f' j k.
    let q : b ≡ (a || not_zero x.now) = search (rules, tests) in
    (q ∙ ap (λ (v : Bool). v || not_zero x.now) j ∙ sym (set_push ys x.now), search rules))
    _ _ _ _ (slice_gives c.iter.result) refl c.fold.ensures.ran)
