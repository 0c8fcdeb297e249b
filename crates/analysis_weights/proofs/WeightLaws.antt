-- The weights are determined: with a cycle or without, each is the one that `weight_of` computes.
use mathlib.Core.Path.{◌≡◌, refl, sym, ap, ap₂, ◌∙◌}
use mathlib.Core.Bool.{Bool, true, false, ◌&&◌, cond, false≢true}
use mathlib.Core.List.{List}
use Prim.Native.Nat.{ℕ, zero, suc, ◌+◌, ◌^◌, ◌≤◌, ◌<◌}
use native.Mathlib.Nat.{le_refl, le_trans, le_of_suc-le-suc, not-suc-le-zero}
use native.Mathlib.Omega.{arith}
use lib.Dec.{eqb}
use lib.ListN.{get_or}
use borrow.Author.Tests.{eq-eqb, eqb-true, eqb-false}
use Rattle.mask.specs.Search.{some, count}
use Rattle.mask.proofs.SearchLaws.{Found, some-elim, some_false, and_true_both, count-lt, count-max}
use Rattle.mask.specs.Mask.{has}
use Rattle.mask.proofs.BitsLaws.{has-lt}
use Rattle.graph.specs.GraphInner.{Edge, Rows, Halts, halts}
use Rattle.graph.specs.Graph.{directly, through, leads}
use Rattle.graph.proofs.GraphLaws.{leads-iff}
use Rattle.graph.proofs.HaltsLaws.{halts-acyclic}
use Rattle.analysis_weights.specs.Weight.{total, weight_of}
use Rattle.analysis_weights.specs.AnalysisWeightsInner.{weight_in, Weights}
use Rattle.analysis_weights.proofs.SumsLaws.{total-same}

-- numbers that fall along every edge: every way ends
pub falling_halts : (trig : List ℕ) (f : ℕ → ℕ) → ((r s : ℕ) → Edge trig r s → f s < f r) → (r : ℕ) → Halts trig r
falling_halts trig f down r = go (suc (f r)) r (le_refl (suc (f r)))
  where
    go : (fuel r : ℕ) → f r < fuel → Halts trig r
    go zero r l = absurd (not-suc-le-zero l)
    go (suc fuel) r l = halts (λ s e. go fuel s (le_trans (down r s e) (le_of_suc-le-suc l)))

module _ (trig : List ℕ) (n : ℕ) (few : n ≤ 32) (rows : Rows n trig) where
  inside : (r s : ℕ) → Edge trig r s → s < 32
  inside r s e = le_trans (has-lt n s (rows r) e) few

  -- some rule that r may trigger has no weight yet
  light : ℕ → ℕ → ℕ → Bool
  light k r s = has (get_or trig r 0) s && eqb (weight_of trig k s) 0

  -- a rule that halts weighs more than 0, where k is more than the number of rules that it leads to
  heavy : {r : ℕ} → Halts trig r → (k : ℕ) → count n (leads trig n r) < k → weight_of trig k r ≡ 0 → ⊥
  unfolding weight_of light
  heavy (halts f) zero l z = not-suc-le-zero l
  heavy (halts {r = r} f) (suc k) l z =
      pick (some 32 (light k r)) refl (λ s e. heavy (f s e) k (le_trans (less s e) (le_of_suc-le-suc l)))
    where
      none : (s : ℕ) → Edge trig r s → (b : Bool) → leads trig n s s ≡ b → leads trig n s s ≡ false
      none s e true q = absurd (halts-acyclic trig n rows (f s e) ((leads-iff n trig rows s s).0 q))
      none s e false q = q

      less : (s : ℕ) → Edge trig r s → count n (leads trig n s) < count n (leads trig n r)
      less s e =
          count-lt n (leads trig n s) (leads trig n r) s (has-lt n s (rows r) e) (none s e (leads trig n s s) refl)
          ((leads-iff n trig rows r s).1 (directly e))
          (λ x w. (leads-iff n trig rows r x).1 (through e ((leads-iff n trig rows s x).0 w)))

      pick : (b : Bool) → some 32 (light k r) ≡ b → ((s : ℕ) → Edge trig r s → weight_of trig k s ≡ 0 → ⊥) → ⊥
      pick true q more =
          let w : Found 32 (light k r) = some-elim 32 (light k r) q in
          let p : (has (get_or trig r 0) w.at ≡ true) × (eqb (weight_of trig k w.at) 0 ≡ true) =
          and_true_both (has (get_or trig r 0) w.at) (eqb (weight_of trig k w.at) 0) w.is in
          more w.at p.0 (eqb-true (weight_of trig k w.at) 0 p.1)
      pick false q more =
          let h : 1 + total 32 (get_or trig r 0) (weight_of trig k) ≡ 0 =
          sym (ap (λ (b : Bool). cond b 0 (1 + total 32 (get_or trig r 0) (weight_of trig k))) q) ∙ z in
          omega (arith, h)

  -- a rule that `weight_of` gives more than 0 halts, and every solution gives it that
  abbrev Computed : ℕ → ℕ → Type 0
  Computed k r =
      (weight_of trig k r ≡ 0 → ⊥) → Halts trig r × ((v : List ℕ) → Weights trig n v → r < n → weight_in v r ≡ weight_of trig k r)

  sound : (k r : ℕ) → Computed k r
  unfolding weight_of light
  sound zero r ne = absurd (ne refl)
  sound (suc k) r ne = pick (some 32 (light k r)) refl (sound k)
    where
      sum : ℕ
      sum = 1 + total 32 (get_or trig r 0) (weight_of trig k)

      pick : (b : Bool) → some 32 (light k r) ≡ b → ((s : ℕ) → Computed k s)
          → Halts trig r × ((v : List ℕ) → Weights trig n v → r < n → weight_in v r ≡ cond (some 32 (light k r)) 0 sum)
      pick true q more = absurd (ne (ap (λ (b : Bool). cond b 0 sum) q))
      pick false q more =
          let below : (s : ℕ) → Edge trig r s → weight_of trig k s ≡ 0 → ⊥ =
          λ s e z. false≢true (sym (some_false 32 (light k r) q s (inside r s e)) ∙ ap₂ ◌&&◌ e
          (eq-eqb (weight_of trig k s) 0 z)) in
          let h : Halts trig r = halts (λ s e. (more s (below s e)).0) in (
            h,
            λ v w l.
                w.weight r l h
                ∙ ap (λ (x : ℕ). 1 + x)
                (total-same 32 (get_or trig r 0) (weight_in v) (weight_of trig k)
                (λ s m e. (more s (below s e)).1 v w (has-lt n s (rows r) e)))
                ∙ sym (ap (λ (b : Bool). cond b 0 sum) q),
          )

  -- ways of fewer than n rules are enough
  pub weight_of-halts : (r : ℕ) → r < n → Halts trig r → weight_of trig n r ≡ 0 → ⊥
  weight_of-halts r l h =
      heavy h n (le_trans
      (count-lt n (leads trig n r) (λ x. true) r l (no_way (leads trig n r r) refl) refl (λ x e. refl))
      (count-max n (λ x. true)))
    where
      no_way : (b : Bool) → leads trig n r r ≡ b → leads trig n r r ≡ false
      no_way true q = absurd (halts-acyclic trig n rows h ((leads-iff n trig rows r r).0 q))
      no_way false q = q

  -- every solution is the one that is computed
  pub weights_are : (v : List ℕ) → Weights trig n v → (r : ℕ) → r < n → weight_in v r ≡ weight_of trig n r
  weights_are v w r l = pick (eqb (weight_of trig n r) 0) refl
    where
      pick : (b : Bool) → eqb (weight_of trig n r) 0 ≡ b → weight_in v r ≡ weight_of trig n r
      pick true q =
          let z : weight_of trig n r ≡ 0 = eqb-true (weight_of trig n r) 0 q in
          w.endless r (λ h. weight_of-halts r l h z) ∙ sym z
      pick false q = (sound n r (eqb-false (weight_of trig n r) 0 q)).1 v w l

  -- the step bound of a set, computed
  pub total-weights : (v : List ℕ) → Weights trig n v → (m : ℕ) → m < 2 ^ n → total 32 m (weight_in v) ≡ total 32 m (weight_of trig n)
  total-weights v w m h = total-same 32 m (weight_in v) (weight_of trig n) (λ s l e. weights_are v w s (has-lt n s h e))
