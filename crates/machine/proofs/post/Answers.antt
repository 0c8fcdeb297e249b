-- Past the two checks the cell is one of the table's.
use Rattle.std.proofs.Common.{◌≡◌, ℕ, ℤ, List, length, set, arith, rules, sym, ap, ap₂, ◌∙◌}
use Rattle.std.proofs.lemmas.Int.{to_z-of_z}
use Rattle.refusal.specs.Answer.{Answer}
use Rattle.mask.specs.First.{first_of}
use Rattle.table.specs.Check.{answer, done, Sound}
use Rattle.table.specs.Memory.{table_from}
use Rattle.table.proofs.SoundLaws.{parts}
use Rattle.rule_act.proofs.ActSlotLaws.{put_one}
use Rattle.machine_spec.specs.Step.{moved, stored_and_woken, post_of, post_numbers}
use Rattle.machine_spec.proofs.StepLaws.{told-done}
use Rattle.machine_spec.proofs.PostLaws.{Posting, posting}
use Rattle.machine_step.specs.MachineStepInner.{stored_and_woken_by}
use Rattle.machine_step.proofs.TurnLaws.{woken-is, woken-by}
use Rattle.machine.proofs.post.Goals as goal
use Rattle.machine.proofs.post.Goals.{In_ok-may_post}

module _ (c : In_ok-may_post) where
  sound : Sound (table_from c.args.table.now)
  sound = record { checked = sym c.in_ok-check.ensures }

  passed : done ≡ answer (first_of 0 (post_numbers (table_from c.args.table.now) c.args.s c.args.cell c.args.value)) 255
  passed =
      let fits = c.ranges.value in
      simp to_z-of_z at c.in_ok-may_post.ensures

  free : Posting (table_from c.args.table.now) c.args.s c.args.cell c.args.value
  free = posting _ _ _ _ (sym (ap (λ (a : Answer). a.number) passed))

pub put-changed-requires : goal.put-changed-requires
put-changed-requires c =
    let d = (goal.at.put-changed-requires c).In_ok-may_post in
    omega (arith, (parts _ (sound d)).sizes.cells, (free d).below)

pub returns : goal.returns
unfolding post_of
returns c =
    let a = c.args in
    let d = (goal.at.returns c).In_ok-may_post in
    let t = table_from a.table.now in
    let long : length a.s.cells ≡ 32 = search rules in
    let after = set a.s.cells a.cell a.value in
    ap (moved 0 255)
    (woken-is c.watches-row.result a.s c.put-changed.new.cells c.put-changed.result c.woken.result
    (put_one a.s.cells c.put-changed.new.cells a.cell _ c.put-changed.result long (omega arith) c.put-changed.ensures)
    c.woken.ensures
    ∙ ap₂ (λ (row : List ℕ) (x : List ℤ). stored_and_woken_by row a.s x) c.watches-row.ensures
    (c.put-changed.ensures.cells ∙ ap (set a.s.cells a.cell) (to_z-of_z _ _ c.ranges.value))
    ∙ woken-by t (parts t (sound d)).sizes.rules a.s after)
    ∙ told-done t (post_numbers t a.s a.cell a.value) a.s (stored_and_woken t a.s after) (sound d) (passed d)
