-- How a run stands after so many steps, the run with budget 0 says.
use Rattle.std.proofs.Common.{◌-◌, ap, ◌∙◌}
use Rattle.std.proofs.lemmas.Result.{err_from_is_err_and}
use Rattle.table.specs.Memory.{table_from}
use Rattle.machine_spec.specs.Run.{Ran, ran}
use Rattle.game.proofs.LoopLaws.{play-end, play_refused}
use Rattle.game.proofs.play.Goals as goal

pub returns-in_err-end : goal.returns-in_err-end
returns-in_err-end c =
    let l = c.loop-r in
    let p = err_from_is_err_and c.from_residual-in_err-end.result c.from_residual-in_err-end.ensures.1 in
    rw (p.1, p.2)
    (play_refused (table_from c.args.table.now) c.args.s c.args.budget l.state l.left c.in_default.ensures l.invariant _ c.in_err-end.ensures)

pub returns : goal.returns
returns c =
    let l = c.loop-r in
    ap (λ (x : Ran). ran x.number x.place l.state (c.args.budget - l.left)) c.in_ok-end.ensures
    ∙ play-end (table_from c.args.table.now) c.args.s c.args.budget l.state l.left c.in_default.ensures l.invariant
