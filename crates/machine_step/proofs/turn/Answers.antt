-- Each return is the case of `effect_by` whose test held.
use mathlib.Core.Path.{sym, ◌∙◌}
use native.Mathlib.Omega.{arith}
use Rattle.table.specs.TableInner.{rule_from}
use Rattle.machine_step.proofs.TurnLaws.{turn_false, turn-out, turn-stored}
use Rattle.machine_step.proofs.turn.Goals as goal

pub returns-then-any_false : goal.returns-then-any_false
returns-then-any_false c =
    let a = c.args in
    turn_false (rule_from a.s.now a.r) a.row.now a.state.now a.r c.without-state.result
    (omega arith) c.without-state.ensures (sym c.any_false.ensures ∙ c.if-any_false.true)

pub returns-in_default : goal.returns-in_default
returns-in_default c =
    let a = c.args in
    turn-out (rule_from a.s.now a.r) a.row.now a.state.now a.r c.without-state.result
    (omega arith) c.without-state.ensures (sym c.any_false.ensures ∙ c.if-any_false.false)
    (sym c.in_default.ensures.out) c.with-state.result (omega arith)
    c.with-state.ensures

pub returns : goal.returns
returns c =
    let a = c.args in
    turn-stored (rule_from a.s.now a.r) a.row.now a.state.now a.r c.without-state.result
    (omega arith) c.without-state.ensures (sym c.any_false.ensures ∙ c.if-any_false.false)
    (sym c.in-Ok.ensures.out)
    c.store-changed.new.cells c.store-changed.result c.woken-state.result
    c.store-changed.ensures c.woken-state.ensures
