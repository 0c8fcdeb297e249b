use mathlib.Core.Path.{◌≡◌, refl, ap, ◌∙◌}
use native.Mathlib.Omega.{arith}
use Rattle.table.specs.Memory.{table_from}
use Rattle.table.proofs.ImageLaws.{rule-from}
use Rattle.table.specs.BodyStarts.{body_size, start_at}
use Rattle.table.proofs.BodyStartsLaws.{start-more}
use Rattle.book_parts.specs.BookPartsInner.{sizes_of}
use Rattle.book_parts.proofs.end_of.Goals as goal

pub loop-i-init : goal.loop-i-init
unfolding start_at
loop-i-init c = (refl, omega arith)

pub loop-i-preserved : goal.loop-i-preserved
loop-i-preserved c =
    let l = c.loop-i in
    let a = c.args in
    let e = ap body_size (rule-from a.table.now l.i (omega arith)) in
    (rw (start-more a.n (sizes_of (table_from a.table.now).rules) l.i) (omega arith), omega arith)

pub returns : goal.returns
returns c =
    let a = c.args in
    let e : c.loop-i.i ≡ a.n = omega arith in
    c.loop-i.invariant.0 ∙ ap (start_at a.n (sizes_of (table_from a.table.now).rules)) e
