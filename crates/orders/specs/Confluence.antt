-- What the theorem promises: where each unordered pair passes, every run is short, goes on while something
-- waits, and all runs that go as far as they can end in states that are the same. And a step of an eligible
-- rule, as a relation.
use Rattle.std.specs.Prelude.{◌≡◌, ◌≢◌, List, [], ◌∷◌, ◌++◌, ℕ, ◌≤◌, ◌<◌, length}
use Rattle.std.proofs.Math.Bool.{So}
use Rattle.orders.specs.Runner.{Runner, Eligible, exec, Runs, Ended}
use Rattle.orders.specs.System.{System, step_bound}
use Rattle.orders.specs.Pairs.{Passes, PairCondition}

-- ── what is promised ──
module _ (𝓢 : System) where
  open 𝓢 use {runner, same}
  open 𝓢.runner use {n, State, waits, goes_before}

  -- all runs from S that go as far as they can end in states that are the same: unique normal forms, modulo `same`
  abbrev pub UniqueEnds : State → Type 0
  UniqueEnds S =
      (u v : List ℕ) → Runs runner u S → Runs runner v S
      → Ended runner (exec runner u S) → Ended runner (exec runner v S)
      → same (exec runner u S) (exec runner v S)

  -- every order from S is short, goes on and ends alike
  pub record EveryRun (S : State) : Type 0 where
    pub short : (u : List ℕ) → Runs runner u S → length u ≤ step_bound 𝓢 S
    pub goes_on : (u : List ℕ) → Runs runner u S → (r : ℕ) → r < n → So (waits (exec runner u S) r)
        → (s : ℕ) × Runs runner (u ++ (s ∷ [])) S
    pub unique-ends : UniqueEnds S

  -- "unordered i and j (neither goes before the other)"
  abbrev pub Unordered : ℕ → ℕ → Type 0
  Unordered i j = (So (goes_before i j) → ⊥) × (So (goes_before j i) → ⊥)

  -- "every unordered pair passes"
  abbrev pub PairsPass : Type 0
  PairsPass = (i j : ℕ) → i < j → j < n → Unordered i j → Passes 𝓢 i j

  -- what the proof uses: the pair condition, and only of rules that are eligible together in some state
  abbrev pub PairsTogether : Type 0
  PairsTogether =
      (i j : ℕ) (S : State) → Eligible runner i S → Eligible runner j S → i ≢ j → PairCondition 𝓢 i j

-- ── a step of an eligible rule, as a relation of states ──
module _ (𝓡 : Runner) where
  open 𝓡 use {State, step}

  abbrev pub EligibleStep : State → State → Type 0
  EligibleStep S T = (r : ℕ) × Eligible 𝓡 r S × (step r S ≡ T)
