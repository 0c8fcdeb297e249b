-- The computed report is the report: each part is what the promise says, and no other report meets the promise.
use mathlib.Core.Path.{◌≡◌, refl, sym, ap₂, ◌∙◌, subst}
use mathlib.Core.Logic.{inl, inr}
use mathlib.Core.Bool.{Bool, true, false, cond, ◌&&◌, ◌||◌, false≢true}
use mathlib.Core.List.{List}
use Prim.Native.Nat.{ℕ, zero, suc, ◌+◌, ◌-◌, ◌^◌, ◌≤◌, ◌<◌}
use native.Mathlib.Nat.{le_trans}
use native.Mathlib.Omega.{arith}
use lib.Dec.{leb, ltb}
use lib.ListN.{length, get_or}
use lib.Pow.{pow_mono}
use borrow.Author.Tests.{leb-true, leb-false, ltb-true, ltb-false}
use Rattle.mask.specs.Search.{count, least}
use Rattle.mask.proofs.SearchLaws.{least-is}
use Rattle.mask.proofs.CountsLaws.{count_none}
use Rattle.mask.specs.Mask.{has, mask_of}
use Rattle.mask.specs.MaskInner.{lowest}
use Rattle.mask.proofs.LoopsLaws.{picked_all, picked_every, mask_of_picked, mask_of-lt}
use Rattle.graph.specs.Graph.{leads}
use Rattle.graph.specs.GraphInner.{Rows}
use Rattle.graph.proofs.GraphLaws.{leads-iff, leads-below}
use Rattle.rule.proofs.FillLaws.{length-upto, get_or-upto}
use Rattle.analysis_pairs.specs.declared.Masks.{Masks}
use Rattle.analysis_pairs.specs.AnalysisPairsInner.{Judged, edge, row_rules}
use Rattle.analysis_pairs.specs.Rules.{Passes, Culprits}
use Rattle.analysis_pairs.proofs.RulesLaws.{fails-not-passes}
use Rattle.analysis_pairs.specs.RuleMasks.{triggers}
use Rattle.analysis_pairs.proofs.SettleLaws.{settle, Settled, settled}
use Rattle.analysis_pairs.proofs.VerdictLaws.{guilty, judged-passing, judged-failing}
use Rattle.analysis_masks.specs.Report.{Report}
use Rattle.analysis_marks.specs.AnalysisMarksInner.{Graphs, graph_rules, Marks}
use Rattle.analysis_masks.specs.AnalysisMasksInner.{Orderly}
use Rattle.analysis_marks.specs.Index.{start, index}
use Rattle.analysis_marks.proofs.IndexLaws.{start-next, row_low, index-lt, index_inj}
use Rattle.analysis_marks.specs.Marks.{Marked, absent, ordered, passes, fails, fails_at, FirstOf}
use Rattle.analysis_masks.specs.Report.{Reported}
use Rattle.analysis_masks.proofs.ReportLaws.{unique}
use Rattle.analysis_marks.proofs.MarkingLaws.{Drawn}
use Rattle.analysis_masks.proofs.AlikeLaws.{alike-rows, triggers-rows}
use Rattle.analysis_masks.proofs.ReportingLaws.{faulty-iff, marks_of_lem, cleared-iff}
use Rattle.analysis_marks.proofs.MarkedLaws.{marks_twos, first_fails, first_some, first-of_none, first-of_some, first_alike}
use Rattle.cases.proofs.ComputeLaws.{verdict, graphs_of, mark_of, locate, marks_of, first_failing, report_by, report_of}

-- ---- a pair

read : (f : ℕ → Bool) (s : ℕ) → s < 32 → has (mask_of 32 f) s ≡ f s
read f s l = picked_all f 32 (mask_of 32 f) (mask_of_picked 32 f) s l

pub verdict-judged : (trig before clash : List ℕ) (i j : ℕ) → i < 32 → j < 32 → Rows 32 trig
    → (let v = verdict trig before clash i j in Judged (row_rules trig before clash) i j v.0 v.1 v.2)
unfolding verdict
verdict-judged trig before clash i j li lj rows = pick (ltb x 32) refl
  where
    g : ℕ × ℕ
    g = settle trig before 65 (2 ^ i) (2 ^ j)

    d : Settled trig before i j rows g
    d = settled trig before i j rows li lj

    p : ℕ
    p = mask_of 32 (guilty clash g.0 g.1)

    x : ℕ
    x = lowest p

    q : ℕ
    q = mask_of 32 (λ s. has (get_or clash x 0) s && has g.1 s)

    hp : (r : ℕ) → r < 32 → has p r ≡ guilty clash g.0 g.1 r
    hp = read (guilty clash g.0 g.1)

    Out : Bool → Type 0
    Out t =
        let v : Bool × ℕ × ℕ = cond t (true, x, lowest q) (false, 0, 0) in
        Judged (row_rules trig before clash) i j v.0 v.1 v.2

    pick : (t : Bool) → ltb x 32 ≡ t → Out t
    pick true e =
        judged-failing clash d.grew d.fa d.fb p hp x (lowest q) q refl (ltb-true x 32 e)
        (read (λ s. has (get_or clash x 0) s && has g.1 s)) refl
    pick false e = judged-passing clash d.grew d.fa d.fb p hp x refl (ltb-false x 32 e)

-- ---- the place of a pair

pub record Located (p : ℕ × ℕ) (k : ℕ) : Type 0 where
  pub low : p.0 < p.1
  pub high : p.1 < 32
  pub at : index p.0 p.1 ≡ k

located : (fuel i left k : ℕ) → start i + left ≡ k → k < 496 → 31 ≤ i + fuel → Located (locate fuel i left) k
unfolding locate
located zero i left k e l h = let z : ⊥ = omega (arith, row_low i k (omega arith) l) in absurd z
located (suc fuel) i left k e l h =
    pick (ltb left (31 - i)) refl (λ b. located fuel (suc i) (left - (31 - i)) k b l (omega arith))
  where
    pick : (t : Bool) → ltb left (31 - i) ≡ t
        → (start (suc i) + (left - (31 - i)) ≡ k → Located (locate fuel (suc i) (left - (31 - i))) k)
        → Located (cond t (i, suc i + left) (locate fuel (suc i) (left - (31 - i)))) k
    pick true q next =
        let w : left < 31 - i = ltb-true left (31 - i) q in
        record { low = omega arith; high = omega arith; at = omega arith }
    pick false q next = next (omega (arith, start-next i, ltb-false left (31 - i) q))

pub locates : (k : ℕ) → k < 496 → Located (locate 31 0 k) k
unfolding start
locates k l = located 31 0 k k (omega arith) l (omega arith)

-- ---- the marks
module _ (g : Graphs) (rows : Rows 32 g.trig) where
  judged : (i j : ℕ) → i < 32 → j < 32
      → (let v = verdict g.trig g.before g.clash i j in Judged (graph_rules g) i j v.0 v.1 v.2)
  judged i j li lj = verdict-judged g.trig g.before g.clash i j li lj rows

  marked : (i j : ℕ) → i < 32 → j < 32 → Marked (graph_rules g) g.n i j (mark_of g i j)
  unfolding mark_of
  marked i j li lj =
      pick (leb g.n j) (edge g.before i j) (edge g.before j i)
      (verdict g.trig g.before g.clash i j).0 refl refl refl refl
    where
      pick : (a b c d : Bool) → leb g.n j ≡ a → edge g.before i j ≡ b → edge g.before j i ≡ c
          → (verdict g.trig g.before g.clash i j).0 ≡ d
          → Marked (graph_rules g) g.n i j (cond a 0 (cond (b || c) 0 (cond d 2 1)))
      pick true b c d x y z w = absent (leb-true g.n j x)
      pick false true c d x y z w = ordered (leb-false g.n j x) (inl y)
      pick false false true d x y z w = ordered (leb-false g.n j x) (inr z)
      pick false false false true x y z w =
          fails (leb-false g.n j x) (λ e. false≢true (sym y ∙ e), λ e. false≢true (sym z ∙ e))
          (λ p. fails-not-passes ((judged i j li lj).failing w) p)
      pick false false false false x y z w =
          passes (leb-false g.n j x) (λ e. false≢true (sym y ∙ e), λ e. false≢true (sym z ∙ e))
          ((judged i j li lj).passing w).0

  marks_are : Marks g (marks_of g)
  unfolding marks_of
  marks_are i j low high =
      let l : index i j < 496 = index-lt i j low high in
      let w : Located (locate 31 0 (index i j)) (index i j) = locates (index i j) l in
      let p = locate 31 0 (index i j) in
      let e : (p.0 ≡ i) × (p.1 ≡ j) = index_inj p.0 p.1 i j w.low w.high low high w.at in
      subst (Marked (graph_rules g) g.n i j)
      (sym (get_or-upto 496 (λ k. mark_of g (locate 31 0 k).0 (locate 31 0 k).1) 0 (index i j) l ∙ ap₂ (mark_of g) e.0
      e.1))
      (marked i j (le_trans low (omega arith)) high)

  first-is : (let w = first_failing g (marks_of g) in FirstOf (graph_rules g) (marks_of g) w.0 w.1 w.2 w.3)
  unfolding first_failing
  first-is = pick (ltb k 496) refl
    where
      q : List ℕ
      q = marks_of g

      k : ℕ
      k = least 496 (fails_at q)

      p : ℕ × ℕ
      p = locate 31 0 k

      v : Bool × ℕ × ℕ
      v = verdict g.trig g.before g.clash p.0 p.1

      pick : (t : Bool) → ltb k 496 ≡ t
          → (let w : ℕ × ℕ × ℕ × ℕ = cond t (p.0, p.1, v.1, v.2) (0, 0, 0, 0) in FirstOf (graph_rules g) q w.0
          w.1 w.2 w.3)
      pick true e =
          let l : k < 496 = ltb-true k 496 e in
          let w : Located p k = locates k l in
          let d : Judged (graph_rules g) p.0 p.1 v.0 v.1 v.2 = judged p.0 p.1 (le_trans w.low (omega arith)) w.high in
          let failed = first_fails (marks_twos g q marks_are) l ((least-is 496 (fails_at q)).is l) w.low w.high w.at in
          first-of_some (first_some refl w.low w.high w.at (culprits d failed v.0 refl))
        where
          culprits : Judged (graph_rules g) p.0 p.1 v.0 v.1 v.2 → (Passes (graph_rules g) p.0 p.1 → ⊥) → (b : Bool) → v.0 ≡ b
              → Culprits (graph_rules g) p.0 p.1 v.1 v.2
          culprits d failed true z = d.failing z
          culprits d failed false z = absurd (failed (d.passing z).0)
      pick false e =
          first-of_none
          (count_none 496 (fails_at q)
          (λ i l. (least-is 496 (fails_at q)).first i (le_trans l (ltb-false k 496 e))))

-- ---- the whole report

marks-size : (g : Graphs) → length (marks_of g) ≡ 496
unfolding marks_of
marks-size g = length-upto 496 (λ k. mark_of g (locate 31 0 k).0 (locate 31 0 k).1)

module _ (m : Masks) (o : Orderly m) where
  drawn : Drawn m (graphs_of m)
  unfolding graphs_of
  drawn = record { n = refl; trig = refl; alike = alike-rows m o }

  rows : Rows 32 (graphs_of m).trig
  unfolding graphs_of
  rows r = le_trans (triggers-rows m o r) (pow_mono o.few)

  round : ℕ → Bool
  round r = leads (graphs_of m).trig (graphs_of m).n r r

  low : (r : ℕ) (b : Bool) → 32 ≤ r → round r ≡ b → round r ≡ false
  unfolding graphs_of round
  low r true l e =
      let w : r < m.n =
      leads-below m.n (triggers-rows m o) ((leads-iff m.n (triggers m) (triggers-rows m o) r r).0 e) in
      let z : ⊥ = omega (arith, o.few) in absurd z
  low r false l e = e

  faulty : (r : ℕ) → has (mask_of 32 round) r ≡ round r
  faulty = picked_every round 32 (mask_of 32 round) (mask_of_picked 32 round) (λ r l. low r (round r) l refl)

  pub reported : Reported m (report_of m)
  unfolding report_by round
  reported =
      let g : Graphs = graphs_of m in
      let k : Marks g (marks_of g) = marks_are g rows in
      let f = faulty-iff m o (mask_of 32 round) g.trig g.n drawn.trig drawn.n faulty in
      record {
        number = refl;
        place = refl;
        cleared =
            cleared-iff m o g drawn (marks_of g) k (mask_of 32 round) (count 496 (fails_at (marks_of g)))
            (mask_of-lt 32 round) f refl;
        faulty = f;
        size = marks-size g;
        marks = marks_of_lem m o g drawn (marks_of g) k;
        failing = refl;
        first = first_alike drawn.alike (first-is g rows);
      }

  -- any report on these rules is the computed one
  pub report-is : (r : Report) → Reported m r → r ≡ report_of m
  report-is r p = unique m r (report_of m) p reported
