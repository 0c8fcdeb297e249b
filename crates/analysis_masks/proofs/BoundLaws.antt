-- The step bound as it is found, and that two of the same set are equal.
use mathlib.Core.Path.{◌≡◌, refl, sym, ap, ◌∙◌}
use mathlib.Core.Logic.{◌↔◌}
use mathlib.Core.Bool.{Bool, true, false, false≢true}
use mathlib.Core.List.{List}
use Prim.Native.Nat.{ℕ, ◌^◌, ◌<◌}
use lib.Pow.{pow_pos}
use Rattle.mask.specs.Search.{some}
use Rattle.mask.proofs.SearchLaws.{Found, some-elim, some_false}
use Rattle.mask.specs.Mask.{has, beyond}
use Rattle.mask.specs.MaskInner.{lowest}
use Rattle.mask.proofs.BitsLaws.{has-zero}
use Rattle.mask.proofs.MaskLaws.{lowest-has, not_beyond}
use Rattle.graph.specs.Graph.{leads}
use Rattle.graph.proofs.GraphLaws.{leads-iff, leads-below}
use Rattle.analysis_weights.specs.Weight.{total}
use Rattle.analysis_weights.specs.AnalysisWeightsInner.{weight_in, Weights}
use Rattle.analysis_weights.proofs.WeightLaws.{total-weights}
use Rattle.analysis_pairs.specs.declared.Masks.{Masks}
use Rattle.analysis_pairs.specs.RuleMasks.{may_trigger, triggers}
use Rattle.analysis_pairs.specs.AnalysisPairsInner.{triggering}
use Rattle.analysis_masks.specs.Bound.{Bound}
use Rattle.analysis_masks.specs.AnalysisMasksInner.{Orderly}
use Rattle.analysis_masks.specs.Cleared.{Faulty}
use Rattle.analysis_masks.proofs.AlikeLaws.{triggers-rows}
use Rattle.analysis_masks.specs.Bound.{Bounded}

-- the bound asks who may trigger whom, and no more
pub triggering-orderly : (m : Masks) → Orderly m → Orderly (triggering m.n m.watch m.writes)
triggering-orderly m o =
    record {
      few = o.few;
      named = λ r. pow_pos m.n;
      watch = o.watch;
      reads = λ r l. refl;
      writes = o.writes;
      precedes = λ r l. refl;
    }

pub bounded_in : (m : Masks) (set : ℕ) (b : Bound) → Bounded (triggering m.n m.watch m.writes) set b → Bounded m set b
unfolding triggers may_trigger
bounded_in m set b h = record { place = h.place; unfit = h.unfit; endless = h.endless; done = h.done }

abbrev made : ℕ → ℕ → ℕ → Bound
made a b c = record { number = a; place = b; bound = c }

pub bound-unique : (m : Masks) → Orderly m → (set : ℕ) (a b : Bound) → Bounded m set a → Bounded m set b → a ≡ b
bound-unique m o set a b p q =
    let e = pick (beyond set m.n) refl (some m.n round) refl in
    let number : a.number ≡ b.number = e.0 in
    let bound : a.bound ≡ b.bound = e.1 in
    let place : a.place ≡ b.place = p.place ∙ sym q.place in
    let z : made a.number a.place a.bound ≡ made b.number b.place b.bound = cc in
    z
  where
    round : ℕ → Bool
    round r = leads (triggers m) m.n r r

    pick : (x : Bool) → beyond set m.n ≡ x → (y : Bool) → some m.n round ≡ y
        → (a.number ≡ b.number) × (a.bound ≡ b.bound)
    pick true e y f = let u = p.unfit e in let v = q.unfit e in (u.0 ∙ sym v.0, u.1 ∙ sym v.1)
    pick false e true f =
        let w : Found m.n round = some-elim m.n round f in
        let c : Faulty m w.at = (leads-iff m.n (triggers m) (triggers-rows m o) w.at w.at).0 w.is in
        let u = p.endless e w.at c in
        let v = q.endless e w.at c in
        (u.0 ∙ sym v.0, u.1 ∙ sym v.1)
    pick false e false f =
        let ends : (r : ℕ) → Faulty m r → ⊥ =
        λ r c. false≢true (sym (some_false m.n round f r (leads-below m.n (triggers-rows m o) c))
        ∙ (leads-iff m.n (triggers m) (triggers-rows m o) r r).1 c) in
        let u = p.done e ends in
        let v = q.done e ends in
        (u.0 ∙ sym v.0, u.1 ∙ sym v.1)

-- ---- from the mask of faulty rules and the weights
module _ (m : Masks) (o : Orderly m) (f set : ℕ) (fits : f < 2 ^ 32) (hf : (x : ℕ) → (has f x ≡ true) ↔ Faulty m x)
    (inside : beyond set m.n ≡ false) where
  pub bounded-endless : (f ≡ 0 → ⊥) → Bounded m set (made 17 255 0)
  bounded-endless ne =
      record {
        place = refl;
        unfit = λ e. absurd (false≢true (sym inside ∙ e));
        endless = λ e r c. (refl, refl);
        done = λ e ends. absurd (ends (lowest f) ((hf (lowest f)).0 (lowest-has f fits ne).1));
      }

  pub bounded-done : (t : ℕ) → set < 2 ^ 32 → f ≡ 0 → (v : List ℕ) → Weights (triggers m) m.n v
      → t ≡ total 32 set (weight_in v)
      → Bounded m set (made 0 255 t)
  bounded-done t ls z v w e =
      record {
        place = refl;
        unfit = λ b. absurd (false≢true (sym inside ∙ b));
        endless = λ b r c. absurd (false≢true (sym (ap (λ (x : ℕ). has x r) z ∙ has-zero r) ∙ (hf r).1 c));
        done = λ b ends. (
          refl,
          e ∙ total-weights (triggers m) m.n o.few (triggers-rows m o) v w set (not_beyond set m.n ls inside),
        );
      }
