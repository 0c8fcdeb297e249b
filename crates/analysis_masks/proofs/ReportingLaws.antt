-- From what the functions find out to what the report says.
use mathlib.Core.Path.{◌≡◌, refl, sym, ap, ap₂, ◌∙◌, subst}
use mathlib.Core.Logic.{◌↔◌}
use mathlib.Core.Bool.{Bool, true, false, ◌&&◌, false≢true}
use mathlib.Core.List.{List}
use Prim.Native.Nat.{ℕ, ◌^◌, ◌<◌}
use native.Mathlib.Nat.{lt_irrefl, le_trans}
use native.Mathlib.Omega.{arith}
use lib.Dec.{eqb}
use lib.ListN.{get_or}
use borrow.Author.Tests.{eqb-true, eq-eqb}
use Rattle.mask.specs.Search.{count}
use Rattle.mask.proofs.SearchLaws.{and_true_both}
use Rattle.mask.specs.Mask.{has}
use Rattle.mask.proofs.BitsLaws.{has-zero}
use Rattle.mask.proofs.MaskLaws.{no_member}
use Rattle.graph.specs.Graph.{leads}
use Rattle.graph.proofs.GraphLaws.{leads-iff}
use Rattle.analysis_pairs.specs.declared.Masks.{Masks}
use Rattle.analysis_pairs.specs.RuleMasks.{rules_of, triggers}
use Rattle.analysis_marks.specs.AnalysisMarksInner.{Graphs, Marks}
use Rattle.analysis_masks.specs.AnalysisMasksInner.{Orderly}
use Rattle.analysis_marks.specs.Index.{index}
use Rattle.analysis_marks.proofs.IndexLaws.{index-lt, PairAt, pair-at}
use Rattle.mask.proofs.CountsLaws.{count_none, count-some}
use Rattle.analysis_masks.specs.Cleared.{Faulty, Cleared}
use Rattle.analysis_marks.specs.Marks.{Marked, fails_at, FirstOf}
use Rattle.analysis_masks.proofs.ReportLaws.{marked-alike}
use Rattle.analysis_marks.proofs.MarkingLaws.{Drawn}
use Rattle.analysis_masks.proofs.AlikeLaws.{triggers-rows}
use Rattle.analysis_masks.proofs.ClearedLaws.{cleared-below}
use Rattle.analysis_marks.proofs.MarkedLaws.{Fails, mark-fails, mark-passes, first-of_none, first-of_some}
use Rattle.analysis_pairs.specs.Rules.{Rules}
use Rattle.analysis_marks.specs.declared.Failing.{Failing}
use Rattle.analysis_marks.specs.AnalysisMarksInner.{FirstFound}
use Rattle.analysis_masks.specs.Found.{pair_of}
use Rattle.std.proofs.Common.{Option, Some, None}

-- the mask of the rules that reach themselves
pub faulty-iff : (m : Masks) → Orderly m → (f : ℕ) (trig : List ℕ) (n : ℕ) → trig ≡ triggers m → n ≡ m.n
    → ((r : ℕ) → has f r ≡ leads trig n r r) → (x : ℕ) → (has f x ≡ true) ↔ Faulty m x
faulty-iff m o f trig n e z h x =
    let q : has f x ≡ leads (triggers m) m.n x x = h x ∙ ap₂ (λ (t : List ℕ) (n : ℕ). leads t n x x) e z in
    let w = leads-iff m.n (triggers m) (triggers-rows m o) x x in
    (λ y. w.0 (sym q ∙ y), λ y. q ∙ w.1 y)

module _ (m : Masks) (o : Orderly m) (g : Graphs) (d : Drawn m g) where
  module _ (q : List ℕ) (marks : Marks g q) where
    pub marks_of_lem : (i j : ℕ) → i < j → j < 32 → Marked (rules_of m) m.n i j (get_or q (index i j) 0)
    marks_of_lem i j low high =
        subst (λ (n : ℕ). Marked (rules_of m) n i j (get_or q (index i j) 0)) d.n
        (marked-alike d.alike (marks i j low high))

    pub cleared-iff : (f c : ℕ) → f < 2 ^ 32 → ((x : ℕ) → (has f x ≡ true) ↔ Faulty m x) → c ≡ count 496 (fails_at q)
        → ((eqb f 0 && eqb c 0) ≡ true) ↔ Cleared m
    cleared-iff f c lf hf hc = (there, back)
      where
        there : (eqb f 0 && eqb c 0) ≡ true → Cleared m
        there e =
            let p : (eqb f 0 ≡ true) × (eqb c 0 ≡ true) = and_true_both (eqb f 0) (eqb c 0) e in
            let zf : f ≡ 0 = eqb-true f 0 p.0 in
            let zc : c ≡ 0 = eqb-true c 0 p.1 in
            cleared-below m
            (λ r w. false≢true (sym (ap (λ (x : ℕ). has x r) zf ∙ has-zero r) ∙ (hf r).1 w))
            (λ i j low l u.
            let high : j < 32 = le_trans l o.few in
            mark-passes (marks_of_lem i j low high) l u (λ z.
            lt_irrefl 0 (omega (
              arith,
              zc,
              hc,
              count-some 496 (fails_at q) (index i j) (index-lt i j low high)
                  (eq-eqb (get_or q (index i j) 0) 2 z),
            ))))

        none : Cleared m → (x : ℕ) (b : Bool) → has f x ≡ b → has f x ≡ false
        none w x true e = absurd (w.ends x ((hf x).0 e))
        none w x false e = e

        unmarked : Cleared m → (k : ℕ) → k < 496 → (b : Bool) → fails_at q k ≡ b → fails_at q k ≡ false
        unmarked w k l true e =
            let p : PairAt k = pair-at k l in
            let v : Fails (rules_of m) m.n p.i p.j =
            mark-fails (marks_of_lem p.i p.j p.low p.high)
            (ap (λ (x : ℕ). get_or q x 0) p.at ∙ eqb-true (get_or q k 0) 2 e) in
            absurd (v.fails (w.pairs p.i p.j (le_trans p.low (omega arith)) v.low
            (λ z. lt_irrefl p.i (omega (arith, p.low))) v.unordered))
        unmarked w k l false e = e

        back : Cleared m → (eqb f 0 && eqb c 0) ≡ true
        back w =
            ap₂ ◌&&◌ (eq-eqb f 0 (no_member f lf (λ x l. none w x (has f x) refl)))
            (eq-eqb c 0 (hc ∙ count_none 496 (fails_at q) (λ k l. unmarked w k l (fails_at q k) refl)))

-- what is found of the first failing pair, as the report tells it
pub found_told : {b : Rules} {q : List ℕ} (o : Option Failing) → FirstFound b q o
    → FirstOf b q (pair_of o).first (pair_of o).second (pair_of o).culprit (pair_of o).other
found_told None h = first-of_none h
found_told (Some f) h = first-of_some h
