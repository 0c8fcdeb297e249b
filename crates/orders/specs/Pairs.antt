-- The pair condition: the paper's, that a pair passes, and the more general one that the proof uses. It is the confluence requirement of
-- Aiken, Widom and Hellerstein for rules with priorities.
use Rattle.std.specs.Prelude.{◌≢◌, Bool, ℕ, ◌<◌}
use Rattle.std.proofs.Math.Bool.{So}
use Rattle.orders.specs.System.{System}

-- ── two sets of rules ──
module _ (𝓢 : System) where
  open 𝓢 use {may_trigger, commute}
  open 𝓢.runner use {n, goes_before}

  -- "add to R1 each rule that one in R1 may trigger and that goes before one in R2": R₁ holds all of these
  abbrev pub Closed : (ℕ → Bool) → (ℕ → Bool) → Type 0
  Closed R₁ R₂ = (a r b : ℕ) → a < n → r < n → b < n
      → So (R₁ a) → So (may_trigger a r) → So (goes_before r b) → So (R₂ b) → So (R₁ r)

  -- R holds no more than i and rules that one in R may trigger
  abbrev pub GrownFrom : ℕ → (ℕ → Bool) → Type 0
  GrownFrom i R = (r : ℕ) → r < n → So (R r) → r ≢ i → (a : ℕ) × (a < n) × So (R a) × So (may_trigger a r)

  -- The paper's condition: "The pair passes when each rule of R1 commutes with each of R2."
  pub record Passes (i j : ℕ) : Type 0 where
    pub R₁ : ℕ → Bool
    pub R₂ : ℕ → Bool
    pub has₁ : So (R₁ i)
    pub has₂ : So (R₂ j)
    pub closed₁ : Closed R₁ R₂
    pub closed₂ : Closed R₂ R₁
    pub grown₁ : GrownFrom i R₁
    pub grown₂ : GrownFrom j R₂
    pub commuting : (a b : ℕ) → a < n → b < n → So (R₁ a) → So (R₂ b) → So (commute a b)

  -- What the proof uses: any two such sets will do, if their rules differ and commute across.
  pub record PairCondition (i j : ℕ) : Type 0 where
    pub R₁ : ℕ → Bool
    pub R₂ : ℕ → Bool
    pub has₁ : So (R₁ i)
    pub has₂ : So (R₂ j)
    pub closed₁ : Closed R₁ R₂
    pub closed₂ : Closed R₂ R₁
    pub commuting : (a b : ℕ) → a < n → b < n → So (R₁ a) → So (R₂ b) → So (commute a b) × (a ≢ b)
