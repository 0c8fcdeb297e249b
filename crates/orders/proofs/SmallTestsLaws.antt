-- What passes a test of SmallTests holds.
use Rattle.std.specs.Prelude.{Bool, true, false, ℕ, ◌<◌}
use Rattle.std.proofs.Math.Bool.{So, not}
use Rattle.std.proofs.lemmas.Bool.{false≢true}
use Rattle.std.proofs.Common.{leb-true}
use Rattle.orders.proofs.FiniteLaws.{all-elim, not-elim}
use Rattle.orders.specs.System.{System, Weighs}
use Rattle.orders.specs.Pairs.{Closed}
use Rattle.orders.specs.SmallTests.{implies, irreflexive?, transitive?, weighs?, closed?, across?}

pub implies-elim : (a b : Bool) → So (implies a b) → So a → So b
implies-elim true b h i = h
implies-elim false b h i = absurd (false≢true i)

-- ── priorities and weights ──
module _ (n : ℕ) (before : ℕ → ℕ → Bool) where
  pub irreflexive-elim : So (irreflexive? n before) → (r : ℕ) → r < n → So (before r r) → ⊥
  unfolding irreflexive?
  irreflexive-elim h r l = not-elim (before r r) (all-elim (λ r. not (before r r)) n h r l)

  pub transitive-elim : So (transitive? n before) → (r s t : ℕ) → r < n → s < n → t < n
      → So (before r s) → So (before s t) → So (before r t)
  unfolding transitive?
  transitive-elim h r s t lr ls lt x y =
      implies-elim (before s t) (before r t)
      (implies-elim (before r s) _ (all-elim _ n (all-elim _ n (all-elim _ n h r lr) s ls) t lt) x) y

pub weighs-elim : (n : ℕ) (may_trigger : ℕ → ℕ → Bool) (weight : ℕ → ℕ) → So (weighs? n may_trigger weight)
    → Weighs n may_trigger weight
unfolding weighs?
weighs-elim n may_trigger weight h r l = leb-true _ _ (all-elim _ n h r l)

-- ── pairs ──
module _ (𝓢 : System) where
  open 𝓢 use {may_trigger, commute}
  open 𝓢.runner use {n, goes_before}

  pub closed-elim : (R₁ R₂ : ℕ → Bool) → So (closed? 𝓢 R₁ R₂) → Closed 𝓢 R₁ R₂
  unfolding closed?
  closed-elim R₁ R₂ h a r b la lr lb x t g y =
      implies-elim (R₂ b) (R₁ r)
      (implies-elim (goes_before r b) _
      (implies-elim (may_trigger a r) _
      (implies-elim (R₁ a) _ (all-elim _ n (all-elim _ n (all-elim _ n h a la) r lr) b lb) x) t) g) y

  pub across_elim : (R₁ R₂ : ℕ → Bool) → So (across? 𝓢 R₁ R₂) → (a b : ℕ) → a < n → b < n → So (R₁ a)
      → So (R₂ b) → So (commute a b)
  unfolding across?
  across_elim R₁ R₂ h a b la lb x y =
      implies-elim (R₂ b) (commute a b) (implies-elim (R₁ a) _ (all-elim _ n (all-elim _ n h a la) b lb) x) y
