-- The slot's 284 bytes.
use Rattle.std.proofs.Common.{◌+◌, ◌*◌, ◌-◌, ◌≡◌, sym, ap, ◌∙◌, arith}
use Rattle.rule.specs.Numbers.{rule_slot_bad}
use Rattle.table.proofs.ImageLaws.{rule-from}
use Rattle.table.proofs.TableSlotLaws.{set_in, part_set, slot-set}
use Rattle.table.proofs.slot_bad.Goals as goal

pub returns : goal.returns
returns c =
    let s = c.args.s.now in
    let i = c.args.i in
    let w : 4 + 284 * i + 284 - (4 + 284 * i) ≡ 284 = omega arith in
    c.any_set.ensures
    ∙ part_set s (4 + 284 * i) (4 + 284 * i + 284 - (4 + 284 * i)) (omega arith)
    ∙ ap (set_in s (4 + 284 * i)) w
    ∙ sym (ap rule_slot_bad (rule-from s i c.requires) ∙ slot-set s (record { small = c.fits-s }) c.told-s i c.requires)
