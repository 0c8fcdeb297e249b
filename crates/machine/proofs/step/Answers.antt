-- Past the two checks the table is sound and r can be stepped, where it lies.
use Rattle.std.proofs.Common.{◌≡◌, ℕ, List, length, rules, sym, ap, ◌∙◌}
use Rattle.refusal.specs.Answer.{Answer}
use Rattle.table.specs.Check.{Sound}
use Rattle.table.specs.Memory.{table_from}
use Rattle.table.specs.TableInner.{rule_from}
use Rattle.machine_spec.specs.State.{Fits}
use Rattle.machine_spec.specs.Step.{moved, effect, step_of, step_numbers}
use Rattle.machine_spec.proofs.StateLaws.{fits-range}
use Rattle.machine_spec.proofs.StepLaws.{Stepping, stepping, told-done}
use Rattle.machine_step.specs.MachineStepInner.{effect_by}
use Rattle.machine_step.proofs.TurnLaws.{slot_at, below_32, turn_is}
use Rattle.machine.proofs.step.Goals as goal
use Rattle.machine.proofs.step.Goals.{In_ok-may_step}

module _ (c : In_ok-may_step) where
  sound : Sound (table_from c.args.table.now)
  sound = record { checked = sym c.in_ok-check.ensures }

  free : Stepping (table_from c.args.table.now) c.args.s c.args.r
  free = stepping _ _ _ (sym (ap (λ (a : Answer). a.number) c.in_ok-may_step.ensures))

  fits : Fits (table_from c.args.table.now) c.args.s
  fits = record { long = search rules; waiting = search rules; faults = search rules; good = free.good }

pub turn-requires : goal.turn-requires
turn-requires c =
    let a = c.args in
    let d = (goal.at.turn-requires c).In_ok-may_step in
    let long : length a.table.now ≡ 9092 = search rules in (
      slot_at a.table.now long (sound d) a.r (free d).below,
      fits-range (table_from a.table.now) a.s (fits d),
      below_32 a.table.now long (sound d) a.r (free d).below,
    )

pub returns : goal.returns
unfolding step_of
returns c =
    let a = c.args in
    let d = (goal.at.returns c).In_ok-may_step in
    let t = table_from a.table.now in
    let long : length a.table.now ≡ 9092 = search rules in
    ap (moved 0 255)
    (c.turn.ensures
    ∙ ap (λ (row : List ℕ). effect_by (rule_from a.table.now a.r) row a.s a.r) c.watches-row.ensures
    ∙ turn_is a.table.now long (sound d) a.r (free d).below a.s)
    ∙ told-done t (step_numbers t a.s a.r) a.s (effect t a.s a.r) (sound d) c.in_ok-may_step.ensures
