use Rattle.std.proofs.Common.{◌≡◌, ◌∙◌, ◌+◌, sym, subst, arith, rules}
use Rattle.table.specs.Memory.{table_from}
use Rattle.machine_spec.specs.declared.State.{State}
use Rattle.machine_spec.specs.State.{lowest_of}
use Rattle.machine_spec.proofs.RunLaws.{StandsAt, stands-start, stands-turn, stands-done, stands-spent}
use Rattle.machine_run.proofs.RunsLaws.{lowest_taken, taken-below, turn-next}
use Rattle.machine_run.proofs.runs.Goals as goal
use Rattle.machine_run.proofs.runs.Goals.{After-lowest-r}
use Rattle.machine_spec.proofs.StateLaws.{fits-range}
use Rattle.machine_step.proofs.TurnLaws.{slot_at, below_32}

pub loop-state-init : goal.loop-state-init
loop-state-init c = record {
  within = search rules;
  fits = c.requires.1;
  stands = stands-start (table_from c.args.table.now) c.args.s c.args.budget;
}

pub returns-then-steps-budget : goal.returns-then-steps-budget
returns-then-steps-budget c =
    let l = c.loop-state in
    sym (stands-spent (table_from c.args.table.now) c.args.s c.args.budget l.state l.steps c.loop-state-test.true c.if-steps-budget.true l.invariant.stands)

-- the rule taken is the lowest eligible one
taken : (c : After-lowest-r) → c.lowest-r.result ≡ lowest_of (table_from c.args.table.now) c.loop-state.state
taken c =
    c.lowest-r.ensures
    ∙ lowest_taken (table_from c.args.table.now) c.loop-state.state c.args.rows.now c.requires.0.before c.eligible.result
    c.eligible.ensures

pub turn-requires : goal.turn-requires
turn-requires c =
    let a = c.args in
    let h = c.requires.0 in
    let l = c.loop-state in
    let r = c.lowest-r.result in
    let below = taken-below a.table.now a.row.now a.rows.now h l.state l.invariant.fits c.loop-state-test.true r
    (taken (goal.at.turn-requires c).After-lowest-r) in (
      slot_at a.table.now h.long h.sound r below,
      fits-range (table_from a.table.now) l.state l.invariant.fits,
      below_32 a.table.now h.long h.sound r below,
    )

pub loop-state-preserved : goal.loop-state-preserved
loop-state-preserved c =
    let a = c.args in
    let l = c.loop-state in
    let t = table_from a.table.now in
    let q = turn-next a.table.now a.row.now a.rows.now c.requires.0 l.state l.invariant.fits c.loop-state-test.true
    c.lowest-r.result (taken (goal.at.loop-state-preserved c).After-lowest-r) c.turn.new.state c.turn.ensures in
    record {
      within = omega arith;
      fits = q.1;
      stands = subst (λ (s : State). StandsAt t a.s a.budget s (l.steps + 1)) (sym q.0)
          (stands-turn t a.s a.budget l.state l.steps (omega arith) c.loop-state-test.true l.invariant.stands);
    }

pub returns : goal.returns
returns c =
    let l = c.loop-state in
    sym (stands-done (table_from c.args.table.now) c.args.s c.args.budget l.state l.steps c.loop-state-test.false l.invariant.stands)
