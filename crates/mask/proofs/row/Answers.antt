use Rattle.std.proofs.Common.{◌-◌, ◌+◌, replicate, drop, ◌∙◌}
use Rattle.std.proofs.lemmas.List.{get_or-append_right, get_or-drop}
use Rattle.mask.proofs.LoopsLaws.{zeros-at}
use Rattle.mask.proofs.row.Goals as goal

pub returns-clause-beyond : goal.returns-clause-beyond
returns-clause-beyond g c r l =
    get_or-append_right c.loop-r.m-items (drop c.args.n (replicate 32 0)) c.args.n r 0 c.loop-r.invariant.0 l
    ∙ (get_or-drop c.args.n (replicate 32 0) (r - c.args.n) 0 ∙ zeros-at 32 (c.args.n + (r - c.args.n)))
