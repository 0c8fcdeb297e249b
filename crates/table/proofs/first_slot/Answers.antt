-- No slot passed is one past n that is not all zero.
use Rattle.std.proofs.Common.{◌≡◌, true, false, rules}
use Rattle.std.proofs.lemmas.Iterator.{first_from_Range}
use Rattle.rule.specs.Numbers.{rule_slot_bad}
use Rattle.table.specs.Table.{rule_at}
use Rattle.table.specs.Memory.{table_from}
use Rattle.table.proofs.TableSlotLaws.{slot_found}
use Rattle.table.proofs.first_slot.Goals as goal

pub returns : goal.returns
unfolding table_from
returns c =
    let t = table_from c.args.s.now in
    slot_found t c.args.n c.requires c.find.result
    (first_from_Range _ _ _ c.find.result (λ x. rule_slot_bad (rule_at t x) ≡ true) (λ x. rule_slot_bad (rule_at t x) ≡ false)
    c.find.ensures.ran (λ x q k. search rules) (λ x q k. search rules))
