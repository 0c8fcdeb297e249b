use Rattle.std.proofs.Common.{◌<◌, ◌-◌, ◌+◌, arith}
use Rattle.analysis_marks.specs.AnalysisMarksInner.{graphs_in}
use Rattle.analysis_marks.proofs.IndexLaws.{index-lt}
use Rattle.analysis_marks.proofs.MarkingLaws.{mark-stored, mark-kept, row-end}
use Rattle.analysis_marks.proofs.row.Goals as goal
use Rattle.analysis_marks.proofs.row.Goals.{In-loop-j, else-unordered, then-unordered}

-- the place of the pair
place : (c : In-loop-j) → c.args.at + (c.loop-j.j - (c.args.i + 1)) < 496
place c = omega (arith, c.requires.here, c.requires.few, index-lt c.args.i c.loop-j.j (omega arith) (omega (arith, c.requires.few)))

pub overflow_add-q-then-unordered : goal.overflow_add-q-then-unordered
overflow_add-q-then-unordered c = omega (arith, place (goal.at.overflow_add-q-then-unordered c).In-loop-j)

pub bounds-q-at : goal.bounds-q-at
bounds-q-at c = place (goal.at.bounds-q-at c).In-loop-j

pub loop-j-preserved : goal.loop-j-preserved
loop-j-preserved c =
    let s = c.args in
    let h = c.requires in
    let order = c.unordered.ensures in
    let g = graphs_in s.n s.relations.now in
    let low : s.i < c.loop-j.j = omega arith in
    let stored = mark-stored g s.i c.loop-j.j s.at c.loop-j.q h.few low c.loop-j-test.true h.here c.loop-j.invariant in
    let kept = mark-kept g s.i c.loop-j.j s.at c.loop-j.q h.few low c.loop-j-test.true h.here c.loop-j.invariant in
    elim c.if-unordered.branch [
      | then-unordered w ↦ rw w.q-is (stored _ (order.unordered w.if-unordered.true) w.mark.ensures)
      | else-unordered w ↦ rw w.q-is (kept (order.ordered w.if-unordered.false))
    ]

pub returns : goal.returns
returns c =
    let s = c.args in
    let h = c.requires in
    row-end (graphs_in s.n s.relations.now) s.i _ c.loop-j.q (omega (arith, h.here, h.present)) h.present h.few c.loop-j.invariant
