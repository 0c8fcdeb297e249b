use Rattle.std.proofs.Common.{◌≡◌, ℕ, add-one, arith, refl, sym, ◌∙◌, subst}
use Rattle.mask.proofs.LoopsLaws.{upto-none}
use Rattle.analysis_marks.specs.Index.{start}
use Rattle.analysis_marks.proofs.IndexLaws.{start-next, start_mono, start-all}
use Rattle.analysis_marks.specs.AnalysisMarksInner.{graphs_in, Filled, MarkAt, no_marks}
use Rattle.analysis_marks.proofs.MarkingLaws.{zeros-size, all-marks}
use Rattle.analysis_marks.proofs.filled.Goals as goal

pub loop-i-init : goal.loop-i-init
unfolding start
loop-i-init c =
    let s = c.args in
    let g = graphs_in s.n s.relations.now in
    (refl, subst (Filled g 0) (sym c.requires.1) (upto-none (MarkAt g) no_marks))

pub overflow_add-at : goal.overflow_add-at
overflow_add-at c = omega (arith, start_mono c.loop-i.i 31 (omega arith), start-all)

pub loop-i-preserved : goal.loop-i-preserved
loop-i-preserved c = (rw add-one (omega (arith, start-next c.loop-i.i)), rw add-one c.row.ensures)

pub returns : goal.returns
returns c =
    let s = c.args in
    let g = graphs_in s.n s.relations.now in
    let all : c.loop-i.i ≡ s.n = omega arith in
    (c.loop-i.invariant.1.len ∙ zeros-size, all-marks g c.loop-i.q (subst (λ (k : ℕ). Filled g k c.loop-i.q) all c.loop-i.invariant.1))
