-- Where i and j are both eligible and their pair meets the pair condition, the two ways part and come
-- together again: the two sets, cut down, and the two ways.
use Rattle.std.specs.Prelude.{◌⊎◌, Bool, List, ◌∷◌, ℕ, ◌<◌}
use Rattle.std.proofs.Math.Bool.{So}
use Rattle.orders.specs.Runner.{exec, Runs, AtOrBefore}
use Rattle.orders.specs.System.{System}

module _ (𝓢 : System) (i j : ℕ) (li : i < 𝓢.runner.n) (lj : j < 𝓢.runner.n) where
  open 𝓢 use {runner, same}
  open 𝓢.runner use {n, State}

  -- ── the two sets, cut down to the rules that are i or j or go before one of the two ──
  abbrev pub Under : ℕ → Type 0
  Under r = AtOrBefore runner r i ⊎ AtOrBefore runner r j

  abbrev pub In : (ℕ → Bool) → ℕ → Type 0
  In R r = (r < n) × So (R r) × Under r

  -- ── the two ways ──
  -- a run that starts with i and one that starts with j, each still a run after the other, with the same end
  pub record Joined (S : State) : Type 0 where
    pub u : List ℕ
    pub v : List ℕ
    pub runs-u : Runs runner (i ∷ u) S
    pub runs-v : Runs runner (j ∷ v) S
    pub then_v : Runs runner (j ∷ v) (exec runner (i ∷ u) S)
    pub then_u : Runs runner (i ∷ u) (exec runner (j ∷ v) S)
    pub meet : same (exec runner (j ∷ v) (exec runner (i ∷ u) S))
        (exec runner (i ∷ u) (exec runner (j ∷ v) S))
