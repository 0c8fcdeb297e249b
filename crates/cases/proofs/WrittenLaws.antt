-- Rules that are written out: masks of the first rules, the others 0; when they are orderly is a test.
use mathlib.Core.Path.{◌≡◌, refl, sym, ◌∙◌}
use mathlib.Core.Logic.{⊎_elim}
use mathlib.Core.Bool.{Bool, true, false, not, ◌||◌, false≢true}
use mathlib.Core.List.{List, [], ◌∷◌, ◌++◌}
use Prim.Native.Nat.{ℕ, zero, suc, ◌-◌, ◌^◌, ◌≤◌, ◌<◌}
use native.Mathlib.Nat.{le_trans, le_of_suc-le-suc}
use native.Mathlib.Omega.{arith}
use lib.Dec.{ltb}
use lib.ListN.{length, get_or, replicate, length-append, length-replicate}
use lib.Pow.{pow_pos, pow_mono}
use borrow.Author.Tests.{ltb-true, not-false}
use Rattle.mask.specs.Search.{some}
use Rattle.mask.proofs.SearchLaws.{some_false, lt-or_ge}
use Rattle.mask.specs.Mask.{has}
use Rattle.mask.proofs.BitsLaws.{has-zero, has-high, unlike}
use Rattle.graph.specs.Graph.{leads}
use Rattle.graph.specs.GraphInner.{Rows}
use Rattle.mask.proofs.LoopsLaws.{zeros-at}
use Rattle.analysis_pairs.specs.declared.Masks.{Masks}
use Rattle.analysis_pairs.specs.RuleMasks.{may_trigger, commute, masks_by, triggers}
use Rattle.analysis_pairs.specs.AnalysisPairsInner.{clashes, Among}
use Rattle.analysis_pairs.proofs.RowsLaws.{Row, rows_only}
use Rattle.analysis_marks.specs.AnalysisMarksInner.{Graphs}
use Rattle.analysis_masks.specs.AnalysisMasksInner.{Past, Orderly}
use Rattle.analysis_masks.proofs.AlikeLaws.{befores, may-within, before-within, clash-within}
use Rattle.cases.proofs.ComputeLaws.{graphs_of}

unfoldable pub with_zeros : List ℕ → List ℕ
with_zeros l = l ++ replicate (32 - length l) 0

unfoldable pub sheet_masks : ℕ → List ℕ → List ℕ → List ℕ → List ℕ → Masks
sheet_masks n watch reads writes precedes =
    record { n = n; watch = with_zeros watch; reads = with_zeros reads; writes = with_zeros writes; precedes = with_zeros precedes }

past_end : (l : List ℕ) (k r : ℕ) → length l ≤ r → ◌≡◌ {A = ℕ} (get_or (l ++ replicate k 0) r 0) 0
past_end [] k r h = zeros-at k r
past_end (x ∷ l) k zero h = let z : ⊥ = omega arith in absurd z
past_end (x ∷ l) k (suc r) h = past_end l k r (le_of_suc-le-suc h)

with_zeros-past : (n : ℕ) (l : List ℕ) → length l ≡ n → Past n (with_zeros l)
unfolding with_zeros
with_zeros-past n l e r h = past_end l (32 - length l) r (rw e h)

-- a precedes bit beyond the rules
unfoldable pub wrong : ℕ → List ℕ → ℕ → Bool
wrong n precedes r = not (ltb (get_or precedes r 0) (2 ^ n))

pub written-orderly : (n : ℕ) (watch reads writes precedes : List ℕ) → ltb n 33 ≡ true → length watch ≡ n → length reads ≡ n
    → length writes ≡ n
    → length precedes ≡ n → some n (wrong n (with_zeros precedes)) ≡ false → Orderly (sheet_masks n watch reads writes precedes)
unfolding sheet_masks wrong
written-orderly n watch reads writes precedes few a b c d none =
    record {
      few = omega (arith, ltb-true n 33 few);
      named = named;
      watch = with_zeros-past n watch a;
      reads = with_zeros-past n reads b;
      writes = with_zeros-past n writes c;
      precedes = with_zeros-past n precedes d;
    }
  where
    named : Rows n (with_zeros precedes)
    named r =
        ⊎_elim
        (λ l. ltb-true (get_or (with_zeros precedes) r 0) (2 ^ n)
        (not-false (ltb (get_or (with_zeros precedes) r 0) (2 ^ n)) (some_false n (wrong n (with_zeros precedes)) none r l)))
        (λ l. rw (with_zeros-past n precedes d r l) (pow_pos n))
        (lt-or_ge r n)

-- ---- the graphs of rules that are written out

unfoldable pub graphs : ℕ → List ℕ → List ℕ → List ℕ → Graphs
graphs n trig before clash = record { n = n; trig = with_zeros trig; before = with_zeros before; clash = with_zeros clash }

-- mask r of t is too large, or differs from f
unfoldable pub row_differs : ℕ → (ℕ → ℕ → Bool) → List ℕ → ℕ → Bool
row_differs n f t r = not (ltb (get_or (with_zeros t) r 0) (2 ^ n)) || some n (λ s. unlike (has (get_or (with_zeros t) r 0) s) (f r s))

apart : (a b : Bool) → (not a || b) ≡ false → (a ≡ true) × (b ≡ false)
apart true b e = (refl, e)
apart false b e = absurd (false≢true (sym e))

like : (a b : Bool) → unlike a b ≡ false → a ≡ b
like true b e = sym (not-false b e)
like false b e = sym e

rows_written : (n : ℕ) (f : ℕ → ℕ → Bool) (t : List ℕ) → n ≤ 32 → length t ≡ n → Among n f
    → some n (row_differs n f t) ≡ false
    → masks_by f ≡ with_zeros t
unfolding row_differs with_zeros
rows_written n f t few e w none = sym (rows_only f (with_zeros t) size row)
  where
    size : length (with_zeros t) ≡ 32
    size = simp (length-append, length-replicate) (omega arith)

    inside : (r : ℕ) → r < n → Row f r (get_or (with_zeros t) r 0)
    inside r l =
        let p = apart (ltb (get_or (with_zeros t) r 0) (2 ^ n)) (some n (λ s. unlike (has (get_or (with_zeros t) r 0) s) (f r s)))
        (some_false n (row_differs n f t) none r l) in
        let v : get_or (with_zeros t) r 0 < 2 ^ n = ltb-true (get_or (with_zeros t) r 0) (2 ^ n) p.0 in (
          le_trans v (pow_mono few),
          λ s h.
              ⊎_elim
              (λ k. like (has (get_or (with_zeros t) r 0) s) (f r s)
              (some_false n (λ s. unlike (has (get_or (with_zeros t) r 0) s) (f r s)) p.1 s k))
              (λ k. has-high n s v k ∙ sym (w.to r s k))
              (lt-or_ge s n),
        )

    row : (r : ℕ) → r < 32 → Row f r (get_or (with_zeros t) r 0)
    row r l =
        ⊎_elim (inside r)
        (λ k. rw (with_zeros-past n t e r k) (pow_pos 32, λ s h. has-zero s ∙ sym (w.from r s k)))
        (lt-or_ge r n)

pub graphs-written : (m : Masks) (trig before clash : List ℕ) → Orderly m
    → length trig ≡ m.n → length before ≡ m.n → length clash ≡ m.n
    → some m.n (row_differs m.n (may_trigger m) trig) ≡ false
    → some m.n (row_differs m.n (leads m.precedes m.n) before) ≡ false
    → some m.n (row_differs m.n (λ r s. not (commute m r s)) clash) ≡ false
    → graphs_of m ≡ graphs m.n trig before clash
unfolding graphs_of graphs triggers befores clashes
graphs-written m trig before clash o a b c x y z =
    let p : masks_by (may_trigger m) ≡ with_zeros trig = rows_written m.n (may_trigger m) trig o.few a (may-within m o) x in
    let q : masks_by (leads m.precedes m.n) ≡ with_zeros before =
    rows_written m.n (leads m.precedes m.n) before o.few b (before-within m o) y in
    let r : masks_by (λ r s. not (commute m r s)) ≡ with_zeros clash =
    rows_written m.n (λ r s. not (commute m r s)) clash o.few c (clash-within m o) z in
    rw (p, q, r)
