-- What holds of cleared rules: the corollaries 8.8, 8.9 and 8.10 of the source document, and what the proof that all
-- orders end alike asks of the pair condition.
use mathlib.Core.Path.{◌≡◌, refl, sym, ap, ◌∙◌}
use mathlib.Core.Logic.{◌⊎◌, inl, inr, ⊎_elim}
use mathlib.Core.Bool.{Bool, true, false, false≢true}
use mathlib.Core.List.{List}
use Prim.Native.Nat.{ℕ, ◌<◌}
use lib.Arith.{lt_of_le-ne}
use lib.ListN.{get_or}
use Rattle.mask.proofs.SearchLaws.{lt-or_ge}
use Rattle.mask.specs.Mask.{has}
use Rattle.mask.proofs.BitsLaws.{has-zero}
use Rattle.graph.specs.Graph.{Leads, directly, through, leads}
use Rattle.graph.proofs.GraphLaws.{leads-iff}
use Rattle.graph.specs.GraphInner.{Halts}
use Rattle.graph.proofs.HaltsLaws.{acyclic-halts}
use Rattle.analysis_pairs.specs.declared.Masks.{Masks}
use Rattle.analysis_pairs.specs.Rules.{first, second, Unordered, Passes}
use Rattle.analysis_pairs.proofs.RulesLaws.{passes-turned}
use Rattle.analysis_pairs.specs.RuleMasks.{may_trigger, commute, rules_of, triggers}
use Rattle.analysis_pairs.proofs.RuleMasksLaws.{commute-sym, triggers-clash}
use Rattle.analysis_masks.specs.AnalysisMasksInner.{Orderly}
use Rattle.analysis_masks.specs.Cleared.{Faulty, Cleared}
use Rattle.analysis_masks.proofs.AlikeLaws.{triggers-rows}

-- ---- 8.8: unordered rules of a cleared book commute

pub unordered-commute : (m : Masks) → Cleared m → (i j : ℕ) → i < m.n → j < m.n → (i ≡ j → ⊥)
    → Unordered (rules_of m) i j
    → commute m i j ≡ true
unordered-commute m c i j li lj ne u = c.pairs i j li lj ne u i j first second

-- ---- 8.9: without priorities every two different rules of a cleared book commute

pub none_before : (m : Masks) → ((r : ℕ) → get_or m.precedes r 0 ≡ 0) → (r s : ℕ) → Leads m.precedes r s → ⊥
none_before m z r s (directly e) = false≢true (sym (ap (λ (x : ℕ). has x s) (z r) ∙ has-zero s) ∙ e)
none_before m z r s (through {t = t} e w) = false≢true (sym (ap (λ (x : ℕ). has x t) (z r) ∙ has-zero t) ∙ e)

pub no_priorities-commute : (m : Masks) → Cleared m → ((r : ℕ) → get_or m.precedes r 0 ≡ 0)
    → (i j : ℕ) → i < m.n → j < m.n → (i ≡ j → ⊥) → commute m i j ≡ true
no_priorities-commute m c z i j li lj ne = unordered-commute m c i j li lj ne (none_before m z i j, none_before m z j i)

-- ---- 8.10: a rule of a cleared book that may trigger another is ordered with it

pub triggers-ordered : (m : Masks) → Orderly m → Cleared m → (i j : ℕ) → i < m.n → j < m.n → (i ≡ j → ⊥)
    → may_trigger m i j ≡ true
    → Leads m.precedes i j ⊎ Leads m.precedes j i
triggers-ordered m o c i j li lj ne e = pick (leads p n i j) (leads p n j i) refl refl
  where
    p : List ℕ
    p = m.precedes

    n : ℕ
    n = m.n

    pick : (a b : Bool) → leads p n i j ≡ a → leads p n j i ≡ b → Leads p i j ⊎ Leads p j i
    pick true b x y = inl ((leads-iff n p o.named i j).0 x)
    pick false true x y = inr ((leads-iff n p o.named j i).0 y)
    pick false false x y =
        absurd (false≢true
        (sym (triggers-clash m i j ne e)
        ∙ unordered-commute m c i j li lj ne (
          λ w. false≢true (sym x ∙ (leads-iff n p o.named i j).1 w),
          λ w. false≢true
              (sym y ∙ (leads-iff n p o.named j i).1 w),
        )))

-- ---- a book is cleared where every pair i below j passes

pub cleared-below : (m : Masks) → ((r : ℕ) → Faulty m r → ⊥)
    → ((i j : ℕ) → i < j → j < m.n → Unordered (rules_of m) i j → Passes (rules_of m) i j) → Cleared m
cleared-below m e p =
    record {
      ends = e;
      pairs = λ i j li lj ne u.
          ⊎_elim
          (λ l. p i j l lj u)
          (λ l. passes-turned (commute-sym m) (p j i (lt_of_le-ne l (λ z. ne (sym z))) li (u.1, u.0)))
          (lt-or_ge i j);
    }

-- ---- rules whose graph has no cycle halt

pub ends-halts : (m : Masks) → Orderly m → ((r : ℕ) → Faulty m r → ⊥) → (r : ℕ) → Halts (triggers m) r
ends-halts m o e =
    acyclic-halts (triggers m) m.n (triggers-rows m o) (λ r. no_way r (leads (triggers m) m.n r r) refl)
  where
    no_way : (r : ℕ) (b : Bool) → leads (triggers m) m.n r r ≡ b → leads (triggers m) m.n r r ≡ false
    no_way r true q = absurd (e r ((leads-iff m.n (triggers m) (triggers-rows m o) r r).0 q))
    no_way r false q = q
