-- Where a run with budget 0 has spent it, the table is sound, the state fits and rules wait, so the lowest eligible rule is due.
use Rattle.std.proofs.Common.{◌≡◌, ◌≤◌, ℕ, rules, arith, sym, ap, ◌∙◌}
use Rattle.mask.proofs.SearchLaws.{least-is}
use Rattle.mask.specs.Mask.{has}
use Rattle.mask.specs.MaskInner.{lowest}
use Rattle.table.specs.Check.{Sound}
use Rattle.table.specs.Memory.{table_from}
use Rattle.machine_spec.specs.State.{Fits}
use Rattle.machine_spec.specs.Run.{Ran, end_number, run_of}
use Rattle.machine_run.proofs.RunsLaws.{lowest_taken}
use Rattle.table.proofs.SoundLaws.{parts}
use Rattle.game.proofs.LoopLaws.{not_spent, over_by, spent-sound, Waits, spent-waits, lowest-due}
use Rattle.game.proofs.due.Goals as goal
use Rattle.game.proofs.due.Goals.{In-Spent}

pub returns-in_default : goal.returns-in_default
returns-in_default c =
    over_by (table_from c.args.table.now) c.args.s c.args.left
    (λ z. not_spent c.in_default.field-0 (ap (λ (x : Ran). x.number) c.in_default.ensures ∙ z))

pub returns-in-Rest : goal.returns-in-Rest
returns-in-Rest c =
    over_by (table_from c.args.table.now) c.args.s c.args.left
    (λ z. absurd (omega (arith, ap end_number c.in-Rest.is, ap (λ (x : Ran). x.number) c.in-Ok.ensures)))

module _ (c : In-Spent) where
  spent : (run_of (table_from c.args.table.now) c.args.s 0).number ≡ 15
  spent = sym (ap (λ (x : Ran). x.number) c.in-Ok.ensures) ∙ ap end_number c.in-Spent.is

  sound : Sound (table_from c.args.table.now)
  sound = spent-sound (table_from c.args.table.now) c.args.s 0 spent

  waits : Waits (table_from c.args.table.now) c.args.s
  waits = spent-waits (table_from c.args.table.now) c.args.s sound spent

  fits : Fits (table_from c.args.table.now) c.args.s
  fits = record { long = search rules; waiting = search rules; faults = search rules; good = waits.good }

pub goes_before-rows-requires : goal.goes_before-rows-requires
unfolding table_from
goes_before-rows-requires c = (parts (table_from c.args.table.now) (sound (goal.at.goes_before-rows-requires c).In-Spent)).sizes.rules

lowest-le : (m : ℕ) → lowest m ≤ 32
unfolding lowest
lowest-le m = (least-is 32 (has m)).bound

pub overflow_cast-result : goal.overflow_cast-result
overflow_cast-result c = omega (arith, c.lowest.ensures, lowest-le c.eligible.result)

pub returns-in-Spent : goal.returns-in-Spent
returns-in-Spent c =
    let d = (goal.at.returns-in-Spent c).In-Spent in
    let t = table_from c.args.table.now in
    lowest-due t c.args.s c.args.left c.lowest.result (sound d) (fits d) (waits d).some (omega (arith, c.if-left-eq0.false))
    (c.lowest.ensures ∙ lowest_taken t c.args.s c.goes_before-rows.result c.goes_before-rows.ensures c.eligible.result c.eligible.ensures)
