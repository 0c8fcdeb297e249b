-- What the marks tell: which pairs fail, and which of them is the first.
use mathlib.Core.Path.{◌≡◌, refl, ◌∙◌}
use mathlib.Core.Logic.{inl, inr}
use mathlib.Core.Bool.{true}
use mathlib.Core.List.{List}
use Prim.Native.Nat.{ℕ, ◌<◌}
use native.Mathlib.Nat.{lt_irrefl, le_trans}
use native.Mathlib.Omega.{arith}
use lib.ListN.{get_or}
use borrow.Author.Tests.{eqb-true, eqb-false}
use Rattle.mask.specs.Search.{count, least}
use Rattle.mask.proofs.SearchLaws.{least-is}
use Rattle.analysis_pairs.specs.Rules.{Rules, Unordered, Passes, Culprits}
use Rattle.analysis_pairs.proofs.RulesLaws.{Alike, culprits-alike}
use Rattle.analysis_marks.specs.AnalysisMarksInner.{Graphs, graph_rules, Marks, Twos}
use Rattle.analysis_marks.specs.Index.{index}
use Rattle.analysis_marks.proofs.IndexLaws.{index-lt}
use Rattle.mask.proofs.CountsLaws.{count-some}
use Rattle.analysis_marks.specs.Marks.{Marked, absent, ordered, passes, fails, fails_at, First, FirstOf}

-- ---- what a mark tells

-- an unordered pair whose mark is not 2 passes
pub mark-passes : {b : Rules} {n i j v : ℕ} → Marked b n i j v → j < n → Unordered b i j → (v ≡ 2 → ⊥) → Passes b i j
mark-passes {j = j} (absent h) l u ne = absurd (lt_irrefl j (le_trans l h))
mark-passes (ordered h (inl x)) l u ne = absurd (u.0 x)
mark-passes (ordered h (inr x)) l u ne = absurd (u.1 x)
mark-passes (passes h w p) l u ne = p
mark-passes (fails h w p) l u ne = absurd (ne refl)

-- the pair whose mark is 2 is unordered and fails
pub record Fails (b : Rules) (n i j : ℕ) : Type 0 where
  pub low : j < n
  pub unordered : Unordered b i j
  pub fails : Passes b i j → ⊥

pub mark-fails : {b : Rules} {n i j v : ℕ} → Marked b n i j v → v ≡ 2 → Fails b n i j
mark-fails (absent h) e = absurd (eqb-false 0 2 refl e)
mark-fails (ordered h w) e = absurd (eqb-false 0 2 refl e)
mark-fails (passes h u p) e = absurd (eqb-false 1 2 refl e)
mark-fails (fails h u p) e = record { low = h; unordered = u; fails = p }

pub marks_twos : (g : Graphs) (q : List ℕ) → Marks g q → Twos (graph_rules g) q
marks_twos g q marks = record { fails = λ i j low high e. (mark-fails (marks i j low high) e).fails }

-- ---- the first failing pair

-- the pair whose mark 2 is the first
pub first_fails : {b : Rules} {q : List ℕ} {i j k : ℕ} → Twos b q → k < 496 → fails_at q k ≡ true → i < j → j < 32 → index i j ≡ k
    → Passes b i j → ⊥
first_fails {q = q} {i = i} {j = j} {k = k} twos l two low high at =
    twos.fails i j low high (eqb-true (get_or q (index i j) 0) 2 (rw at two))

pub first_some : {b : Rules} {q : List ℕ} {i j k c o : ℕ} → k ≡ least 496 (fails_at q) → i < j → j < 32 → index i j ≡ k
    → Culprits b i j c o → First b q i j c o
first_some e low high at d = record { low = low; high = high; earliest = at ∙ e; culprits = d }

-- where there is a first failing pair, some mark is 2
pub first_counts : {b : Rules} {q : List ℕ} {i j c o : ℕ} → First b q i j c o → 0 < count 496 (fails_at q)
first_counts {q = q} {i = i} {j = j} f =
    count-some 496 (fails_at q) (index i j) here (rw f.earliest ((least-is 496 (fails_at q)).is (rw f.earliest at here)))
  where
    here : index i j < 496
    here = index-lt i j f.low f.high

-- what is found, as a report tells it
pub first-of_none : {b : Rules} {q : List ℕ} → count 496 (fails_at q) ≡ 0 → FirstOf b q 0 0 0 0
first-of_none e = record { none = λ h. (refl, refl, refl, refl); some = λ h. let z : ⊥ = omega arith in absurd z }

pub first-of_some : {b : Rules} {q : List ℕ} {i j c o : ℕ} → First b q i j c o → FirstOf b q i j c o
first-of_some f = record { none = λ h. let z : ⊥ = omega (arith, first_counts f) in absurd z; some = λ h. f }

pub first_alike : {a b : Rules} {q : List ℕ} {i j c o : ℕ} → Alike a b → FirstOf a q i j c o → FirstOf b q i j c o
first_alike h f =
    record {
      none = f.none;
      some = λ l.
          let w = f.some l in
          record { low = w.low; high = w.high; earliest = w.earliest; culprits = culprits-alike h w.culprits };
    }
