-- A concrete machine that makes the paper's step, and of whose states one can tell the amounts, who waits
-- and the fault marks; and what is promised of every order of its own steps.
use Rattle.std.specs.Prelude.{◌≡◌, Bool, ◌&&◌, ◌||◌, not, cond, List, [], ◌∷◌, ◌++◌, ℕ, ◌≤◌, ◌<◌, eqb, length}
use Rattle.std.proofs.Math.Bool.{So}
use Rattle.orders.specs.Finite.{sum}
use Rattle.orders.specs.Runner.{Runner, Eligible, exec, Runs, Ended}
use Rattle.orders.specs.Cells.{Cells, changed}
use Rattle.orders.specs.Bodies.{Analysis}
use Rattle.orders.specs.Actions.{Actions, stored, action_bodies}

-- The paper's step, as it is seen in a state that fits when an eligible rule is stepped.
pub record Concrete (k : ℕ) (A : Actions k) (𝓡 : Runner) : Type 1 where
  pub fit : 𝓡.State → Type 0
  pub cell : 𝓡.State → Cells
  pub fault : 𝓡.State → ℕ → Bool
  pub n-is : 𝓡.n ≡ A.n
  pub goes_before-is : (s r : ℕ) → s < 𝓡.n → r < 𝓡.n → 𝓡.goes_before s r ≡ A.goes_before s r
  pub step_fits : (r : ℕ) (S : 𝓡.State) → fit S → Eligible 𝓡 r S → fit (𝓡.step r S)
  -- "all targets are stored together", or "no cell changes"
  pub cell-step : (r : ℕ) (S : 𝓡.State) → fit S → Eligible 𝓡 r S → (x : ℕ) → x < k
      → cell (𝓡.step r S) x ≡ stored k A r (cell S) x
  -- "r gets a fault mark"
  pub fault-step : (r : ℕ) (S : 𝓡.State) → fit S → Eligible 𝓡 r S → (t : ℕ) → t < A.n
      → fault (𝓡.step r S) t ≡ (fault S t || (eqb t r && A.faults r (cell S)))
  -- "r stops waiting … each rule that watches a cell whose value now differs from before waits, r included"
  pub waits-step : (r : ℕ) (S : 𝓡.State) → fit S → Eligible 𝓡 r S → (t : ℕ) → t < A.n
      → 𝓡.waits (𝓡.step r S) t
      ≡ ((𝓡.waits S t && not (eqb t r)) || changed k (A.watches t) (cell S) (stored k A r (cell S)))

module _ (k : ℕ) (A : Actions k) (𝓡 : Runner) (C : Concrete k A 𝓡) where
  open C use {cell, fault}

  module _ (N : Analysis k (action_bodies k A)) where
    -- what is promised of every order of the machine's steps from S
    pub record Promised (S : 𝓡.State) : Type 0 where
      pub short : (u : List ℕ) → Runs 𝓡 u S → length u ≤ sum (λ s. cond (𝓡.waits S s) (N.weight s) 0) A.n
      pub goes_on : (u : List ℕ) → Runs 𝓡 u S → (r : ℕ) → r < 𝓡.n → So (𝓡.waits (exec 𝓡 u S) r)
          → (s : ℕ) × Runs 𝓡 (u ++ (s ∷ [])) S
      pub same-amounts : (u v : List ℕ) → Runs 𝓡 u S → Runs 𝓡 v S
          → Ended 𝓡 (exec 𝓡 u S) → Ended 𝓡 (exec 𝓡 v S)
          → (x : ℕ) → x < k → cell (exec 𝓡 u S) x ≡ cell (exec 𝓡 v S) x
      pub same-faults : (u v : List ℕ) → Runs 𝓡 u S → Runs 𝓡 v S
          → Ended 𝓡 (exec 𝓡 u S) → Ended 𝓡 (exec 𝓡 v S)
          → (r : ℕ) → r < A.n → fault (exec 𝓡 u S) r ≡ fault (exec 𝓡 v S) r
