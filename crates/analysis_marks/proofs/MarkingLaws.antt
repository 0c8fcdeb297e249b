-- What filling the marks keeps: all before a place are those of their pairs, the rest are 0; what is passed over stands for a pair that
-- is ordered or absent.
use mathlib.Core.Path.{◌≡◌, refl, sym, ap, ◌∙◌, subst}
use mathlib.Core.Logic.{◌⊎◌, ⊎_elim}
use mathlib.Core.List.{List}
use Prim.Native.Nat.{ℕ, suc, ◌+◌, ◌-◌, ◌≤◌, ◌<◌}
use native.Mathlib.Nat.{le_refl, le_trans}
use native.Mathlib.Omega.{arith}
use lib.ListN.{length, get_or, set}
use Rattle.mask.proofs.SearchLaws.{lt-or_ge}
use Rattle.mask.specs.MaskInner.{Upto}
use Rattle.mask.proofs.LoopsLaws.{upto-keep, upto-store, zeros-at}
use Rattle.analysis_pairs.specs.declared.Masks.{Masks}
use Rattle.analysis_pairs.specs.Rules.{Rules, Unordered}
use Rattle.analysis_pairs.specs.RuleMasks.{rules_of, triggers}
use Rattle.analysis_pairs.proofs.RulesLaws.{Alike}
use Rattle.analysis_marks.specs.AnalysisMarksInner.{Graphs, graph_rules, Judges, bad, good, MarkAt, no_marks, Filled, Marks}
use Rattle.analysis_marks.specs.Index.{start, index}
use Rattle.analysis_marks.proofs.IndexLaws.{start_mono, start-next, index-row, index-lt, index_inj, row_is}
use Rattle.analysis_marks.specs.Marks.{Marked, absent, ordered, passes, fails}

-- g has the graphs of the rules m
pub record Drawn (m : Masks) (g : Graphs) : Type 0 where
  pub n : g.n ≡ m.n
  pub trig : g.trig ≡ triggers m
  pub alike : Alike (graph_rules g) (rules_of m)

no_mark : (k : ℕ) → get_or no_marks k 0 ≡ 0
unfolding no_marks
no_mark = zeros-at 496

pub zeros-size : length no_marks ≡ 496
unfolding no_marks
zeros-size = refl

-- ---- one more mark, one more row, all rows

judged-mark : {b : Rules} {n i j v : ℕ} → j < n → Unordered b i j → Judges b i j v → Marked b n i j v
judged-mark l u (good p) = passes l u p
judged-mark l u (bad p) = fails l u p

-- the mark of i and j belongs where it is stored
mark-here : (g : Graphs) (i j at v : ℕ) → g.n ≤ 32 → i < j → j < g.n → at ≡ start i
    → Marked (graph_rules g) g.n i j v → MarkAt g (at + (j - (i + 1))) v
mark-here g i j at v few l h e m i' j' l' h' q =
    let s : index i j ≡ index i' j' = omega arith in
    let p : (i ≡ i') × (j ≡ j') = index_inj i j i' j' l (le_trans h few) l' h' s in
    subst (λ (x : ℕ). Marked (graph_rules g) g.n x j' v) p.0
    (subst (λ (x : ℕ). Marked (graph_rules g) g.n i x v) p.1 m)

module _ (g : Graphs) (i j at : ℕ) (q : List ℕ) (few : g.n ≤ 32) (l : i < j) (h : j < g.n) (e : at ≡ start i)
    (u : Upto (MarkAt g) no_marks (at + (j - (i + 1))) q) where
  next : at + (j - (i + 1)) + 1 ≡ at + ((j + 1) - (i + 1))
  next = omega arith

  pub mark-stored : (v : ℕ) → Unordered (graph_rules g) i j → Judges (graph_rules g) i j v
      → Upto (MarkAt g) no_marks (at + ((j + 1) - (i + 1))) (set q (at + (j - (i + 1))) v)
  mark-stored v w d =
      rw (← next) (upto-store (MarkAt g) no_marks (at + (j - (i + 1))) v q
      (omega (arith, e, zeros-size, index-lt i j l (le_trans h few))) u
      (mark-here g i j at v few l h e (judged-mark h w d)))

  pub mark-kept : (graph_rules g).before i j ⊎ (graph_rules g).before j i → Upto (MarkAt g) no_marks (at + ((j + 1) - (i + 1))) q
  mark-kept o =
      rw (← next) (upto-keep (MarkAt g) no_marks (at + (j - (i + 1))) q u
      (subst (MarkAt g (at + (j - (i + 1))))
      (sym (u.rest (at + (j - (i + 1))) (le_refl _) ∙ no_mark (at + (j - (i + 1)))))
      (mark-here g i j at 0 few l h e (ordered h o))))

-- what is left of row i stands for absent rules
pub row-end : (g : Graphs) (i k : ℕ) (q : List ℕ) → k ≡ start i + (g.n - (i + 1)) → i < g.n → g.n ≤ 32
    → Upto (MarkAt g) no_marks k q → Filled g (suc i) q
row-end g i k q e l few u =
    record {
      len = u.len;
      done =
          λ x h. ⊎_elim (u.done x) (λ w. subst (MarkAt g x) (sym (u.rest x w ∙ no_mark x)) (past x h w)) (lt-or_ge x k);
      rest = λ x h. u.rest x (le_trans (omega (arith, start-next i)) h);
    }
  where
    past : (x : ℕ) → x < start (suc i) → k ≤ x → MarkAt g x 0
    past x h w i' j' l' h' z =
        let p : i ≡ i' = row_is i i' j' l' h' (omega arith) (omega arith) in
        let s : start i ≡ start i' = ap start p in
        absent (omega arith)

pub all-marks : (g : Graphs) (q : List ℕ) → Filled g g.n q → Marks g q
all-marks g q u i j l h =
    ⊎_elim
    (λ k. u.done (index i j) k i j l h refl)
    (λ k. subst (Marked (graph_rules g) g.n i j) (sym (u.rest (index i j) k ∙ no_mark (index i j))) (absent (late k)))
    (lt-or_ge (index i j) (start g.n))
  where
    late : start g.n ≤ index i j → g.n ≤ j
    late k =
        ⊎_elim
        (λ q. let f : ⊥ = omega (arith, index-row i j l h, start_mono (suc i) g.n q) in absurd f)
        (λ q. omega arith)
        (lt-or_ge i g.n)
