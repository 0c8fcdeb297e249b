-- A set beyond the rules is refused first, then a graph with a cycle; else the weights are those that are defined.
use Rattle.std.proofs.Common.{◌≡◌, ℕ, true, List, ◌↔◌, refl, sym, ◌∙◌, subst, arith}
use Rattle.mask.specs.Mask.{has}
use Rattle.graph.specs.GraphInner.{Rows}
use Rattle.analysis_weights.specs.AnalysisWeightsInner.{Weights}
use Rattle.analysis_pairs.specs.declared.Masks.{Masks}
use Rattle.analysis_pairs.specs.RuleMasks.{triggers}
use Rattle.analysis_pairs.specs.AnalysisPairsInner.{triggering, Among}
use Rattle.analysis_pairs.proofs.LentMasksLaws.{may_in, triggers_in_lem}
use Rattle.analysis_masks.specs.Cleared.{Faulty}
use Rattle.analysis_masks.proofs.AlikeLaws.{may-within, triggers-rows}
use Rattle.analysis_masks.proofs.ReportingLaws.{faulty-iff}
use Rattle.analysis_masks.proofs.BoundLaws.{bounded-endless, bounded-done}
use Rattle.analysis_masks.proofs.rows.bound.Goals as goal
use Rattle.analysis_masks.proofs.rows.bound.Goals.{After-at_fault}

-- the rules that are lent
abbrev lent : After-at_fault → Masks
lent c = triggering c.args.n c.args.watch.now c.args.writes.now

trig : (c : After-at_fault) → c.triggers-trig.result ≡ triggers (lent c)
trig c = c.triggers-trig.ensures ∙ triggers_in_lem (lent c)

-- the mask of the rules at fault
faulty : (c : After-at_fault) (x : ℕ) → (has c.at_fault.result x ≡ true) ↔ Faulty (lent c) x
faulty c = faulty-iff (lent c) c.requires c.at_fault.result _ _ (trig c) refl c.at_fault.ensures

pub triggers-trig-requires : goal.triggers-trig-requires
triggers-trig-requires c =
    let m = triggering c.args.n c.args.watch.now c.args.writes.now in
    (c.requires.few, subst (Among c.args.n) (sym (may_in m)) (may-within m c.requires))

pub returns-then-at_fault-ne0 : goal.returns-then-at_fault-ne0
returns-then-at_fault-ne0 c =
    let at = (goal.at.returns-then-at_fault-ne0 c).After-at_fault in
    bounded-endless (lent at) c.requires c.at_fault.result c.args.set (omega arith) (faulty at)
    (sym c.beyond.ensures ∙ c.if-beyond.false) c.if-at_fault-ne0.true

pub weights-w-requires : goal.weights-w-requires
weights-w-requires c =
    let at = (goal.at.weights-w-requires c).After-at_fault in
    (c.requires.few, subst (Rows c.args.n) (sym (trig at)) (triggers-rows (lent at) c.requires))

pub returns : goal.returns
returns c =
    let at = (goal.at.returns c).After-at_fault in
    bounded-done (lent at) c.requires c.at_fault.result c.args.set (omega arith) (faulty at)
    (sym c.beyond.ensures ∙ c.if-beyond.false) c.total.result c.ranges.set.fits c.if-at_fault-ne0.false c.weights-w.result
    (subst (λ (x : List ℕ). Weights x c.args.n c.weights-w.result) (trig at) c.weights-w.ensures) c.total.ensures
