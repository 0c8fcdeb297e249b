-- What runs: rules with priorities, who waits, a step. Which orders are permitted, when a run has ended,
-- and a rule's height in the priorities. No law but that of the priorities.
use Rattle.std.specs.Prelude.{◌≡◌, ◌⊎◌, Bool, List, [], ◌∷◌}
use Rattle.std.proofs.Math.Bool.{So, cond}
use Prim.Native.Nat.{ℕ, ◌<◌}
use Rattle.orders.specs.Finite.{sum}

-- The rules are the numbers below n. "r goes before s when r's precedes mask names s, directly or through
-- others": a strict order, since "the priorities have a cycle" is refused.
pub record Runner : Type 1 where
  pub n : ℕ
  pub State : Type 0
  pub waits : State → ℕ → Bool
  pub step : ℕ → State → State
  pub goes_before : ℕ → ℕ → Bool
  pub goes_before-irreflexive : (r : ℕ) → r < n → So (goes_before r r) → ⊥
  pub goes_before-transitive : (r s t : ℕ) → r < n → s < n → t < n
      → So (goes_before r s) → So (goes_before s t) → So (goes_before r t)

module _ (𝓡 : Runner) where
  open 𝓡 use {n, State, waits, step, goes_before}

  -- "A rule is eligible when it waits and no waiting rule goes before it."
  pub record Eligible (r : ℕ) (S : State) : Type 0 where
    pub below : r < n
    pub waiting : So (waits S r)
    pub none_before : (s : ℕ) → s < n → So (waits S s) → So (goes_before s r) → ⊥

  -- the state after the steps of a list, in order
  abbrev pub exec : List ℕ → State → State
  exec [] S = S
  exec (r ∷ u) S = exec u (step r S)

  -- a permitted order: each rule of the list is eligible when its turn comes
  abbrev pub Runs : List ℕ → State → Type 0
  Runs [] S = Unit {0}
  Runs (r ∷ u) S = Eligible r S × Runs u (step r S)

  -- nothing waits
  abbrev pub Ended : State → Type 0
  Ended S = (r : ℕ) → r < n → So (waits S r) → ⊥

  -- ── priorities ──
  abbrev pub AtOrBefore : ℕ → ℕ → Type 0
  AtOrBefore r m = (r ≡ m) ⊎ So (goes_before r m)

  -- how many rules go before r
  unfoldable pub height : ℕ → ℕ
  height r = sum (λ s. cond (goes_before s r) 1 0) n

  -- ── where something waits, something is eligible ──
  -- an eligible rule that is r or goes before r
  pub record EligibleAtOrBefore (r : ℕ) (S : State) : Type 0 where
    pub rule : ℕ
    pub eligible : Eligible rule S
    pub ahead : AtOrBefore rule r
