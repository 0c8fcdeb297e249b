-- The report as a function that computes, for cases that are written out: R1 and R2 settle in rounds, and each mark follows from its
-- pair.
use mathlib.Core.Bool.{Bool, true, false, ◌&&◌, ◌||◌, cond}
use mathlib.Core.List.{List}
use Prim.Native.Nat.{ℕ, zero, suc, ◌+◌, ◌-◌, ◌^◌}
use lib.Dec.{eqb, leb, ltb}
use lib.ListN.{get_or}
use Rattle.mask.specs.Search.{count, least}
use Rattle.mask.specs.Mask.{has, mask_of}
use Rattle.mask.specs.MaskInner.{lowest}
use Rattle.graph.specs.Graph.{leads}
use Rattle.rule.specs.Fill.{upto}
use Rattle.analysis_pairs.specs.declared.Masks.{Masks}
use Rattle.analysis_pairs.specs.RuleMasks.{triggers}
use Rattle.analysis_pairs.specs.AnalysisPairsInner.{clashes, edge}
use Rattle.analysis_pairs.proofs.SettleLaws.{settle}
use Rattle.analysis_pairs.proofs.VerdictLaws.{guilty}
use Rattle.analysis_masks.specs.Report.{Report}
use Rattle.analysis_marks.specs.AnalysisMarksInner.{Graphs}
use Rattle.analysis_marks.specs.Marks.{fails_at}
use Rattle.analysis_masks.proofs.AlikeLaws.{befores}

unfoldable pub graphs_of : Masks → Graphs
graphs_of m = record { n = m.n; trig = triggers m; before = befores m; clash = clashes m }

-- ---- a pair: whether it fails, and the two culprits or 0

abbrev pub verdict_from : List ℕ → ℕ × ℕ → ℕ → Bool × ℕ × ℕ
verdict_from clash g x =
    cond (ltb x 32) (true, x, lowest (mask_of 32 (λ s. has (get_or clash x 0) s && has g.1 s))) (false, 0, 0)

unfoldable pub verdict : List ℕ → List ℕ → List ℕ → ℕ → ℕ → Bool × ℕ × ℕ
verdict trig before clash i j =
    let g = settle trig before 65 (2 ^ i) (2 ^ j) in
    verdict_from clash g (lowest (mask_of 32 (guilty clash g.0 g.1)))

-- ---- the report

-- the mark of i and j, i below j
unfoldable pub mark_of : Graphs → ℕ → ℕ → ℕ
mark_of g i j =
    cond (leb g.n j) 0
    (cond (edge g.before i j || edge g.before j i) 0 (cond (verdict g.trig g.before g.clash i j).0 2 1))

-- the pair that stands `left` places after the start of row i; k more rows are looked at
unfoldable pub locate : ℕ → ℕ → ℕ → ℕ × ℕ
locate zero i left = (i, suc i + left)
locate (suc k) i left = cond (ltb left (31 - i)) (i, suc i + left) (locate k (suc i) (left - (31 - i)))

unfoldable pub marks_of : Graphs → List ℕ
marks_of g = upto 496 (λ k. mark_of g (locate 31 0 k).0 (locate 31 0 k).1)

-- the first failing pair and its culprits, or zeros
unfoldable pub first_failing : Graphs → List ℕ → ℕ × ℕ × ℕ × ℕ
first_failing g q =
    let p = locate 31 0 (least 496 (fails_at q)) in
    let v = verdict g.trig g.before g.clash p.0 p.1 in
    cond (ltb (least 496 (fails_at q)) 496) (p.0, p.1, v.1, v.2) (0, 0, 0, 0)

unfoldable pub report_by : Graphs → Report
report_by g =
    let q = marks_of g in
    let f = mask_of 32 (λ r. leads g.trig g.n r r) in
    let c = count 496 (fails_at q) in
    let w = first_failing g q in
    record {
      number = 0;
      place = 255;
      cleared = eqb f 0 && eqb c 0;
      faulty = f;
      marks = q;
      failing = c;
      first = w.0;
      second = w.1;
      culprit = w.2;
      other = w.3;
    }

abbrev pub report_of : Masks → Report
report_of m = report_by (graphs_of m)
