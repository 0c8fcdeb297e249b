-- Each part says of the graphs what the report says of the rules, and the two are alike.
use Rattle.std.proofs.Common.{◌≡◌, ℕ, Bool, true, ◌&&◌, eqb, List, ◌↔◌, refl, sym, ◌∙◌, subst, arith}
use Rattle.std.proofs.lemmas.Bool.Decides.{nat_tests}
use Rattle.analysis_pairs.specs.RuleMasks.{rules_of, triggers}
use Rattle.analysis_pairs.specs.AnalysisPairsInner.{row_rules, Among, turned_of}
use Rattle.analysis_pairs.proofs.LentMasksLaws.{may_in, triggers_in_lem}
use Rattle.analysis_pairs.proofs.RulesLaws.{Alike}
use Rattle.analysis_marks.specs.AnalysisMarksInner.{Graphs}
use Rattle.analysis_marks.proofs.MarkingLaws.{Drawn}
use Rattle.analysis_marks.proofs.MarkedLaws.{marks_twos, first_counts, first_alike}
use Rattle.analysis_masks.specs.Cleared.{Cleared}
use Rattle.analysis_masks.proofs.AlikeLaws.{may-within, clash-within, row_within, clashes_mutual, alike_turned}
use Rattle.analysis_masks.proofs.ReportingLaws.{faulty-iff, marks_of_lem, cleared-iff, found_told}
use Rattle.analysis_masks.proofs.rows.judged.Goals as goal
use Rattle.analysis_masks.proofs.rows.judged.Goals.{After-clashes, then-faulty-eq0, else-faulty-eq0}

-- the graphs that are found
abbrev graphs : After-clashes → Graphs
graphs c =
    record {
      n = c.args.m.now.n;
      trig = c.triggers.result;
      before = turned_of c.turned.result;
      clash = c.clashes.result;
    }

drawn : (c : After-clashes) → Drawn c.args.m.now (graphs c)
drawn c =
    let m = c.args.m.now in
    let trig : c.triggers.result ≡ triggers m = c.triggers.ensures ∙ triggers_in_lem m in
    record {
      n = refl;
      trig = trig;
      alike =
          subst (λ (x : List ℕ). Alike (row_rules c.triggers.result (turned_of x) c.clashes.result) (rules_of m))
          (sym c.turned.ensures)
          (alike_turned m c.requires.0 c.triggers.result c.closure-before.result c.clashes.result trig c.closure-before.ensures c.clashes.ensures);
    }

pub triggers-requires : goal.triggers-requires
triggers-requires c =
    let m = c.args.m.now in (c.requires.0.few, subst (Among m.n) (sym (may_in m)) (may-within m c.requires.0))

pub turned-requires : goal.turned-requires
turned-requires c =
    (c.requires.0.few, row_within c.args.m.now c.requires.0 c.closure-before.result c.closure-before.ensures)

pub clashes-requires : goal.clashes-requires
clashes-requires c = (c.requires.0.few, clash-within c.args.m.now c.requires.0)

-- who does not commute with whom is mutual
pub invariant_of-relations : goal.invariant_of-relations
invariant_of-relations c =
    record { «mutual» = rw c.clashes.ensures (clashes_mutual c.args.m.now c.requires.0) }

pub first_failing-first-requires : goal.first_failing-first-requires
first_failing-first-requires c =
    marks_twos (graphs (goal.at.first_failing-first-requires c).After-clashes) c.filled.new.q c.filled.ensures.1

pub invariant_of-result : goal.invariant_of-result
invariant_of-result c =
    let found = c.first_failing-first.ensures in
    record {
      none = λ e. c.count_failing-failing.ensures ∙ (rw e at found);
      some = λ f e.
          let first = rw e at found in
          (omega (arith, c.count_failing-failing.ensures, first_counts first), first.low);
    }

pub returns : goal.returns
returns c =
    let m = c.args.m.now in
    let o = c.requires.0 in
    let q = c.filled.new.q in
    let k = c.filled.ensures.1 in
    let at = (goal.at.returns c).After-clashes in
    let d = drawn at in
    let on = faulty-iff m o c.at_fault-faulty.result _ _ d.trig refl c.at_fault-faulty.ensures in
    let both_zero : c.if-faulty-eq0.result ≡ (eqb c.at_fault-faulty.result 0 && eqb c.count_failing-failing.result 0) =
    elim c.if-faulty-eq0.branch [ then-faulty-eq0 w ↦ grind (arith, nat_tests) | else-faulty-eq0 w ↦ grind (arith, nat_tests) ] in
    record {
      number = refl;
      place = refl;
      cleared =
          subst (λ (b : Bool). (b ≡ true) ↔ Cleared m) (sym both_zero)
          (cleared-iff m o (graphs at) d q k c.at_fault-faulty.result _ (omega arith) on c.count_failing-failing.ensures);
      faulty = on;
      size = c.filled.ensures.0;
      marks = marks_of_lem m o (graphs at) d q k;
      failing = c.count_failing-failing.ensures;
      first = first_alike d.alike (found_told c.first_failing-first.result c.first_failing-first.ensures);
    }
