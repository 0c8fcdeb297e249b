-- Tests that compute, for small instances: the order is strict, weights are heavy enough, a set is closed, two sets commute.
use Rattle.std.specs.Prelude.{Bool, ◌||◌, cond, ℕ, ◌+◌, leb}
use Rattle.std.proofs.Math.Bool.{not}
use Rattle.orders.specs.Finite.{sum, all}
use Rattle.orders.specs.System.{System}

abbrev pub implies : Bool → Bool → Bool
implies a b = not a || b

-- ── priorities and weights ──
unfoldable pub irreflexive? : ℕ → (ℕ → ℕ → Bool) → Bool
irreflexive? n before = all (λ r. not (before r r)) n

unfoldable pub transitive? : ℕ → (ℕ → ℕ → Bool) → Bool
transitive? n before =
    all (λ r. all (λ s. all (λ t. implies (before r s) (implies (before s t) (before r t))) n) n) n

unfoldable pub weighs? : ℕ → (ℕ → ℕ → Bool) → (ℕ → ℕ) → Bool
weighs? n may_trigger weight =
    all (λ r. leb (1 + sum (λ s. cond (may_trigger r s) (weight s) 0) n) (weight r)) n

-- ── pairs ──
module _ (𝓢 : System) where
  open 𝓢 use {may_trigger, commute}
  open 𝓢.runner use {n, goes_before}

  unfoldable pub closed? : (ℕ → Bool) → (ℕ → Bool) → Bool
  closed? R₁ R₂ =
      all
      (λ a.
      all
      (λ r.
      all (λ b. implies (R₁ a) (implies (may_trigger a r) (implies (goes_before r b) (implies (R₂ b) (R₁ r))))) n)
      n)
      n

  unfoldable pub across? : (ℕ → Bool) → (ℕ → Bool) → Bool
  across? R₁ R₂ = all (λ a. all (λ b. implies (R₁ a) (implies (R₂ b) (commute a b))) n) n
