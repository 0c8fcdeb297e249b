-- A pair that passes meets the pair condition that the proof uses, whichever of the two rules is named first.
use Rattle.std.specs.Prelude.{◌≡◌, ◌≢◌, ℕ, ◌<◌}
use Rattle.std.proofs.Common.{sym, ◌∙◌, subst}
use Rattle.std.proofs.Math.Bool.{So}
use Rattle.std.proofs.Math.Decide.{ℕ_discrete}
use Rattle.orders.specs.System.{System}
use Rattle.orders.specs.Pairs.{Passes, PairCondition}

module _ (𝓢 : System) (i j : ℕ) where
  open 𝓢 use {commute_symmetric, commute-quiet}
  open 𝓢.runner use {n}

  -- the condition does not depend on which of the two is named first
  unfoldable pub pair_condition_flip : PairCondition 𝓢 i j → PairCondition 𝓢 j i
  pair_condition_flip p =
      record {
        R₁ = p.R₂;
        R₂ = p.R₁;
        has₁ = p.has₂;
        has₂ = p.has₁;
        closed₁ = p.closed₂;
        closed₂ = p.closed₁;
        commuting = λ a b l m x y.
            let c = p.commuting b a m l y x in
            (commute_symmetric b a m l c.0, λ e. c.1 (sym e));
      }

  -- ── a pair that passes meets the condition: the two sets share no rule ──
  disjoint : (p : Passes 𝓢 i j) → i ≢ j → (r : ℕ) → r < n → So (p.R₁ r) → So (p.R₂ r) → ⊥
  disjoint p ne r l x y = go (ℕ_discrete r i) (ℕ_discrete r j)
    where
      go : Dec (r ≡ i) → Dec (r ≡ j) → ⊥
      go (yes e) (yes f) = ne (sym e ∙ f)
      go (yes e) (no f) =
          let w = p.grown₂ r l y f in
          commute-quiet w.0 r w.1 l
          (commute_symmetric r w.0 l w.1 (p.commuting r w.0 l w.1 x w.2)) w.3
      go (no e) f =
          let w = p.grown₁ r l x e in
          commute-quiet w.0 r w.1 l (p.commuting w.0 r w.1 l w.2 y) w.3

  pub passes⇒pair_condition : i ≢ j → Passes 𝓢 i j → PairCondition 𝓢 i j
  passes⇒pair_condition ne p =
      record {
        R₁ = p.R₁;
        R₂ = p.R₂;
        has₁ = p.has₁;
        has₂ = p.has₂;
        closed₁ = p.closed₁;
        closed₂ = p.closed₂;
        commuting = λ a b l m x y.
            (p.commuting a b l m x y, λ e. disjoint p ne a l x (subst (λ z. So (p.R₂ z)) (sym e) y));
      }
