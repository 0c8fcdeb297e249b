-- The computed weights meet the paper's equation: where a rule has a weight, longer ways change nothing, so the weights of what it may
-- trigger are the same one step later.
use mathlib.Core.Path.{◌≡◌, refl, sym, ap, ap₂, ◌∙◌}
use mathlib.Core.Bool.{Bool, true, false, ◌&&◌, cond, false≢true}
use mathlib.Core.List.{List}
use Prim.Native.Nat.{ℕ, zero, suc, ◌+◌, ◌≤◌, ◌<◌}
use native.Mathlib.Nat.{le_trans}
use lib.Dec.{eqb}
use lib.ListN.{get_or}
use borrow.Author.Tests.{eq-eqb, ne_eqb}
use Rattle.mask.specs.Search.{some}
use Rattle.mask.proofs.SearchLaws.{some-none, some_false}
use Rattle.mask.specs.Mask.{has}
use Rattle.mask.proofs.BitsLaws.{has-lt}
use Rattle.graph.specs.GraphInner.{Edge, Rows, Halts}
use Rattle.analysis_weights.specs.Weight.{total, weight_of}
use Rattle.analysis_weights.proofs.SumsLaws.{total-same}
use Rattle.analysis_weights.proofs.WeightLaws.{weight_of-halts}

module _ (trig : List ℕ) (n : ℕ) (few : n ≤ 32) (rows : Rows n trig) where
  light : ℕ → ℕ → ℕ → Bool
  light k r s = has (get_or trig r 0) s && eqb (weight_of trig k s) 0

  -- where r has a weight, every rule that it may trigger has one
  heavy : (k r : ℕ) → (weight_of trig (suc k) r ≡ 0 → ⊥)
      → (some 32 (light k r) ≡ false) × (weight_of trig (suc k) r ≡ 1 + total 32 (get_or trig r 0) (weight_of trig k))
  unfolding weight_of light
  heavy k r ne = pick (some 32 (light k r)) refl
    where
      sum : ℕ
      sum = 1 + total 32 (get_or trig r 0) (weight_of trig k)

      pick : (b : Bool) → some 32 (light k r) ≡ b → (some 32 (light k r) ≡ false) × (cond (some 32 (light k r)) 0 sum ≡ sum)
      pick true q = absurd (ne (ap (λ (b : Bool). cond b 0 sum) q))
      pick false q = (q, ap (λ (b : Bool). cond b 0 sum) q)

  heavy-next : (k r s : ℕ) → some 32 (light k r) ≡ false → Edge trig r s → weight_of trig k s ≡ 0 → ⊥
  unfolding light
  heavy-next k r s q e z =
      false≢true
      (sym (some_false 32 (light k r) q s (le_trans (has-lt n s (rows r) e) few)) ∙ ap₂ ◌&&◌ e (eq-eqb (weight_of trig k s) 0 z))

  -- longer ways change nothing where there is a weight
  stable : (k r : ℕ) → (weight_of trig k r ≡ 0 → ⊥) → weight_of trig (suc k) r ≡ weight_of trig k r
  unfolding weight_of light
  stable zero r ne = absurd (ne refl)
  stable (suc k) r ne = go (heavy k r ne) (stable k)
    where
      go : (some 32 (light k r) ≡ false) × (weight_of trig (suc k) r ≡ 1 + total 32 (get_or trig r 0) (weight_of trig k))
          → ((s : ℕ) → (weight_of trig k s ≡ 0 → ⊥) → weight_of trig (suc k) s ≡ weight_of trig k s)
          → weight_of trig (suc (suc k)) r ≡ weight_of trig (suc k) r
      go h more =
          ap (λ (b : Bool). cond b 0 (1 + total 32 (get_or trig r 0) (weight_of trig (suc k)))) none
          ∙ ap (λ (x : ℕ). 1 + x)
          (total-same 32 (get_or trig r 0) (weight_of trig (suc k)) (weight_of trig k) (λ s l e. more s (heavy-next k r s h.0 e)))
          ∙ sym h.1
        where
          off : (s : ℕ) (b : Bool) → has (get_or trig r 0) s ≡ b → light (suc k) r s ≡ false
          off s true q =
              ap₂ ◌&&◌ q
              (ne_eqb (weight_of trig (suc k) s) 0
              (λ z. heavy-next k r s h.0 q (sym (more s (heavy-next k r s h.0 q)) ∙ z)))
          off s false q = ap (λ (b : Bool). b && eqb (weight_of trig (suc k) s) 0) q

          none : some 32 (light (suc k) r) ≡ false
          none = some-none 32 (light (suc k) r) (λ s l. off s (has (get_or trig r 0) s) refl)

  -- "a rule weighs one more than all the rules it may trigger together"
  pub weighs : (r : ℕ) → r < n → Halts trig r → weight_of trig n r ≡ 1 + total 32 (get_or trig r 0) (weight_of trig n)
  weighs r l h =
      let ne : weight_of trig n r ≡ 0 → ⊥ = weight_of-halts trig n few rows r l h in
      let e : weight_of trig (suc n) r ≡ weight_of trig n r = stable n r ne in
      sym e ∙ (heavy n r (λ z. ne (sym e ∙ z))).1

-- the sum over no numbers
pub total-none : (m : ℕ) (f : ℕ → ℕ) → total 0 m f ≡ 0
unfolding total
total-none m f = refl
