-- What ends and agrees: who may trigger whom, who commutes with whom, weights, which states are as good as
-- equal, and what a step does to these. The step bound is the weight of the waiting set.
use Rattle.std.specs.Prelude.{◌⊎◌, ◌≢◌, Bool, List, [], ◌∷◌}
use Rattle.std.proofs.Math.Logic.{Equivalence}
use Rattle.std.proofs.Math.Bool.{So, cond}
use Prim.Native.Nat.{ℕ, ◌+◌, ◌≤◌, ◌<◌}
use Rattle.orders.specs.Finite.{sum}
use Rattle.orders.specs.Runner.{Runner}

-- "a rule weighs one more than all the rules it may trigger together", or more: then triggers have no cycle
abbrev pub Weighs : ℕ → (ℕ → ℕ → Bool) → (ℕ → ℕ) → Type 0
Weighs n may_trigger weight = (r : ℕ) → r < n → 1 + sum (λ s. cond (may_trigger r s) (weight s) 0) n ≤ weight r

pub record System : Type 1 where
  pub runner : Runner
  pub may_trigger : ℕ → ℕ → Bool
  pub commute : ℕ → ℕ → Bool
  pub weight : ℕ → ℕ
  -- states that are as good as equal: the same rules wait, and the same steps eligible-at-or-before to states as good as equal
  pub same : runner.State → runner.State → Type 0
  pub same-is : Equivalence same
  pub same-waits : (S T : runner.State) → same S T → (r : ℕ) → r < runner.n
      → So (runner.waits S r) → So (runner.waits T r)
  pub same_step : (S T : runner.State) → same S T → (r : ℕ) → r < runner.n
      → So (runner.waits S r) → same (runner.step r S) (runner.step r T)
  pub weighs : Weighs runner.n may_trigger weight
  -- rules that commute do not trigger one another
  pub commute_symmetric : (r s : ℕ) → r < runner.n → s < runner.n → So (commute r s) → So (commute s r)
  pub commute-quiet : (r s : ℕ) → r < runner.n → s < runner.n → So (commute r s) → So (may_trigger r s) → ⊥
  -- another rule that waited still waits, unless the stepped rule may trigger it: such a rule may be put to
  -- sleep
  pub keeps : (r s : ℕ) (S : runner.State) → r < runner.n → s < runner.n → So (runner.waits S r) → r ≢ s
      → (So (may_trigger r s) → ⊥) → So (runner.waits S s) → So (runner.waits (runner.step r S) s)
  -- a rule that waits after the step is another that waited, or one that the stepped rule may trigger
  pub wakes : (r s : ℕ) (S : runner.State) → r < runner.n → s < runner.n → So (runner.waits S r)
      → So (runner.waits (runner.step r S) s) → ((r ≢ s) × So (runner.waits S s)) ⊎ So (may_trigger r s)
  -- two different waiting rules that commute can be stepped in either order
  pub swaps : (r s : ℕ) (S : runner.State) → r < runner.n → s < runner.n → r ≢ s → So (commute r s)
      → So (runner.waits S r) → So (runner.waits S s)
      → same (runner.step r (runner.step s S)) (runner.step s (runner.step r S))

module _ (𝓢 : System) where
  open 𝓢 use {may_trigger, weight}
  open 𝓢.runner use {n, State, waits, step}

  -- each rule of the list waits when its turn comes
  abbrev pub EachWaits : List ℕ → State → Type 0
  EachWaits [] S = Unit {0}
  EachWaits (r ∷ u) S = (r < n) × So (waits S r) × EachWaits u (step r S)

  -- ── each step takes weight away ──
  -- the weight of s where it waits; where r may trigger it
  abbrev pub if_waiting : State → ℕ → ℕ
  if_waiting S s = cond (waits S s) (weight s) 0

  abbrev pub if_triggered : ℕ → ℕ → ℕ
  if_triggered r s = cond (may_trigger r s) (weight s) 0

  -- "The step bound of a set is the sum of its weights": here of the waiting set
  unfoldable pub step_bound : State → ℕ
  step_bound S = sum (λ s. cond (waits S s) (weight s) 0) n
