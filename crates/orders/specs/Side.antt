-- One side of a pair: a set P of rules that run, against a set Q with all of which they commute. Rules of P
-- run until nothing that waits goes before a rule of Q.
use Rattle.std.specs.Prelude.{◌≢◌, List, [], ◌∷◌}
use Rattle.std.proofs.Math.Bool.{So}
use Prim.Native.Nat.{ℕ, ◌<◌}
use Rattle.orders.specs.Runner.{exec, Runs}
use Rattle.orders.specs.System.{System}

abbrev pub Each : (ℕ → Type 0) → List ℕ → Type 0
Each P [] = Unit {0}
Each P (r ∷ u) = P r × Each P u

pub record Side (𝓢 : System) (P Q : ℕ → Type 0) : Type 0 where
  pub P_below : (a : ℕ) → P a → a < 𝓢.runner.n
  pub Q_below : (b : ℕ) → Q b → b < 𝓢.runner.n
  pub Q_dec : (b : ℕ) → Dec (Q b)
  -- what a rule of P may trigger and goes before a rule of Q is of P
  pub closed : (a r b : ℕ) → r < 𝓢.runner.n → P a → So (𝓢.may_trigger a r) → So (𝓢.runner.goes_before r b)
      → Q b → P r
  pub commuting : (a b : ℕ) → P a → Q b → So (𝓢.commute a b)
  pub apart : (a b : ℕ) → P a → Q b → a ≢ b

module _ (𝓢 : System) (P Q : ℕ → Type 0) (𝓓 : Side 𝓢 P Q) where
  open 𝓢 use {runner}
  open 𝓢.runner use {n, State, waits, goes_before}

  -- what waits and goes before a rule of Q: is of P; is not of P; is not there
  abbrev pub AheadInP : State → Type 0
  AheadInP T = (s m : ℕ) → s < n → So (waits T s) → So (goes_before s m) → Q m → P s

  abbrev pub AheadNotInP : State → Type 0
  AheadNotInP T = (s m : ℕ) → s < n → So (waits T s) → So (goes_before s m) → Q m → P s → ⊥

  abbrev pub NoneAhead : State → Type 0
  NoneAhead T = (s m : ℕ) → s < n → So (waits T s) → So (goes_before s m) → Q m → ⊥

  -- ── rules of P run until nothing that waits goes before a rule of Q ──
  pub record UntilNoneAhead (T : State) : Type 0 where
    pub rules : List ℕ
    pub runs : Runs runner rules T
    pub each : Each P rules
    pub quiet : NoneAhead (exec runner rules T)

  unfoldable pub WaitsAhead : State → ℕ → Type 0
  WaitsAhead T s = So (waits T s) × ((m : ℕ) × (m < n) × (So (goes_before s m) × Q m))

  -- ── together: a branch from x, and a branch of the other side after it ──
  pub record Branch (x : ℕ) (S : State) : Type 0 where
    pub rules : List ℕ
    pub runs : Runs runner (x ∷ rules) S
    pub each : Each P (x ∷ rules)
    pub quiet : NoneAhead (exec runner (x ∷ rules) S)
