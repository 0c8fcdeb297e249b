-- Rules written out with their graphs: what any report on them says, and their step bounds.
use mathlib.Core.Path.{◌≡◌, refl, sym, ap, ◌∙◌}
use mathlib.Core.Bool.{Bool, true, false, ◌&&◌, not, false≢true}
use mathlib.Core.List.{List, [], ◌∷◌}
use Prim.Native.Nat.{ℕ, zero, suc}
use lib.Dec.{eqb, ltb}
use lib.ListN.{length, get_or}
use borrow.Author.Tests.{eqb-true, not-true}
use Rattle.mask.specs.Search.{some}
use Rattle.mask.proofs.SearchLaws.{and_true_both}
use Rattle.mask.specs.Mask.{has, beyond}
use Rattle.mask.proofs.BitsLaws.{has-zero}
use Rattle.graph.specs.Graph.{leads}
use Rattle.analysis_weights.specs.Weight.{total, weight_of}
use Rattle.analysis_pairs.specs.declared.Masks.{Masks}
use Rattle.analysis_pairs.specs.RuleMasks.{may_trigger, commute}
use Rattle.analysis_masks.specs.Report.{Report}
use Rattle.analysis_masks.specs.Bound.{Bound}
use Rattle.analysis_masks.specs.AnalysisMasksInner.{Orderly}
use Rattle.analysis_masks.specs.Cleared.{Faulty}
use Rattle.analysis_masks.specs.Report.{Reported}
use Rattle.analysis_masks.specs.Bound.{Bounded}
use Rattle.cases.proofs.ComputeLaws.{graphs_of, report_by, report_of}
use Rattle.cases.proofs.ComputedLaws.{reported, report-is}
use Rattle.cases.proofs.WrittenLaws.{with_zeros, sheet_masks, wrong, written-orderly, graphs, row_differs, graphs-written}

-- n rules: their four masks each; and who may trigger whom, who goes before whom, who does not commute with whom
pub record Sheet : Type 0 where
  pub n : ℕ
  pub watch : List ℕ
  pub reads : List ℕ
  pub writes : List ℕ
  pub precedes : List ℕ
  pub trig : List ℕ
  pub before : List ℕ
  pub clash : List ℕ

abbrev pub masks : Sheet → Masks
masks h = sheet_masks h.n h.watch h.reads h.writes h.precedes

-- n masks in each list, no precedes bit beyond the rules, and the graphs are those of the masks
abbrev pub tests : Sheet → List Bool
tests h =
    ltb h.n 33
    ∷ eqb (length h.watch) h.n
    ∷ eqb (length h.reads) h.n
    ∷ eqb (length h.writes) h.n
    ∷ eqb (length h.precedes) h.n
    ∷ eqb (length h.trig) h.n
    ∷ eqb (length h.before) h.n
    ∷ eqb (length h.clash) h.n
    ∷ not (some h.n (wrong h.n (with_zeros h.precedes)))
    ∷ not (some h.n (row_differs h.n (may_trigger (masks h)) h.trig))
    ∷ not (some h.n (row_differs h.n (leads (masks h).precedes h.n) h.before))
    ∷ not (some h.n (row_differs h.n (λ r s. not (commute (masks h) r s)) h.clash))
    ∷ []

abbrev pub every : List Bool → Bool
every [] = true
every (b ∷ bs) = b && every bs

every-at : (l : List Bool) → every l ≡ true → (i : ℕ) → get_or l i true ≡ true
every-at [] e i = refl
every-at (b ∷ l) e zero = (and_true_both b (every l) e).0
every-at (b ∷ l) e (suc i) = every-at l (and_true_both b (every l) e).1 i

-- the verdict, the faulty rules, the count of failing pairs, the first of them, its culprits
abbrev pub Findings : Type 0
Findings = Bool × ℕ × ℕ × (ℕ × ℕ) × (ℕ × ℕ)

unfoldable pub findings : Report → Findings
findings r = (r.cleared, r.faulty, r.failing, (r.first, r.second), (r.culprit, r.other))

module _ (h : Sheet) (e : every (tests h) ≡ true) where
  test : (i : ℕ) → get_or (tests h) i true ≡ true
  test = every-at (tests h) e

  size : (l : List ℕ) → eqb (length l) h.n ≡ true → length l ≡ h.n
  size l t = eqb-true (length l) h.n t

  none : (f : ℕ → Bool) → not (some h.n f) ≡ true → some h.n f ≡ false
  none f t = not-true (some h.n f) t

  pub sheet_orderly : Orderly (masks h)
  sheet_orderly =
      written-orderly h.n h.watch h.reads h.writes h.precedes (test 0) (size h.watch (test 1))
      (size h.reads (test 2)) (size h.writes (test 3)) (size h.precedes (test 4))
      (none (wrong h.n (with_zeros h.precedes)) (test 8))

  pub drawn : graphs_of (masks h) ≡ graphs h.n h.trig h.before h.clash
  unfolding sheet_masks
  drawn =
      graphs-written (masks h) h.trig h.before h.clash sheet_orderly (size h.trig (test 5))
      (size h.before (test 6)) (size h.clash (test 7))
      (none (row_differs h.n (may_trigger (masks h)) h.trig) (test 9))
      (none (row_differs h.n (leads (masks h).precedes h.n) h.before) (test 10))
      (none (row_differs h.n (λ r s. not (commute (masks h) r s)) h.clash) (test 11))

  module _ (x : Findings) (says : findings (report_by (graphs h.n h.trig h.before h.clash)) ≡ x) where
    -- what any report on these rules says
    pub report-says : (r : Report) → Reported (masks h) r → findings r ≡ x
    report-says r p = ap findings (report-is (masks h) sheet_orderly r p ∙ ap report_by drawn) ∙ says

    faulty-is : (r : ℕ) → (has x.1 r ≡ true → Faulty (masks h) r) × (Faulty (masks h) r → has x.1 r ≡ true)
    unfolding findings
    faulty-is r =
        let p : Reported (masks h) (report_of (masks h)) = reported (masks h) sheet_orderly in
        let q : (report_of (masks h)).faulty ≡ x.1 = ap (λ (y : Findings). y.1) (report-says (report_of (masks h)) p) in
        (λ w. (p.faulty r).0 (ap (λ (m : ℕ). has m r) q ∙ w), λ w. sym (ap (λ (m : ℕ). has m r) q) ∙ (p.faulty r).1 w)

    -- the step bound of a set, where the graph has no cycle
    pub bound-is : x.1 ≡ 0 → (set v : ℕ) → beyond set h.n ≡ false
        → total 32 set (weight_of (with_zeros h.trig) h.n) ≡ v → (b : Bound)
        → Bounded (masks h) set b → (b.number ≡ 0) × (b.bound ≡ v)
    unfolding sheet_masks graphs_of graphs
    bound-is none set v fits sum b p =
        let q = p.done fits (λ r w. false≢true (sym (ap (λ (m : ℕ). has m r) none ∙ has-zero r) ∙ (faulty-is r).1 w)) in
        (q.0, q.1 ∙ ap (λ g. total 32 set (weight_of g.trig h.n)) drawn ∙ sum)

    -- and where it has one: rule r reaches itself
    pub bound-refused : (r : ℕ) → has x.1 r ≡ true → (set : ℕ) → beyond set h.n ≡ false → (b : Bound)
        → Bounded (masks h) set b → (b.number ≡ 17) × (b.bound ≡ 0)
    unfolding sheet_masks
    bound-refused r faulty set fits b p = p.endless fits r ((faulty-is r).0 faulty)
