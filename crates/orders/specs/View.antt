-- A concrete machine (arrays, masks, an invariant) viewed as an abstract system.
use Rattle.std.specs.Prelude.{◌≡◌, ℕ, ◌<◌}
use Rattle.orders.specs.Runner.{Runner, Eligible}
use Rattle.orders.specs.System.{System}

-- States that fit show who waits; a step of an eligible rule stays fitting and shows the system's step.
pub record Viewed (A : Runner) (𝓢 : System) (fit : A.State → Type 0) (view : A.State → 𝓢.runner.State)
    : Type 0 where
  pub n-is : A.n ≡ 𝓢.runner.n
  pub goes_before-is : (s r : ℕ) → s < A.n → r < A.n → A.goes_before s r ≡ 𝓢.runner.goes_before s r
  pub waits-is : (S : A.State) (r : ℕ) → fit S → r < A.n → A.waits S r ≡ 𝓢.runner.waits (view S) r
  pub step_fits : (r : ℕ) (S : A.State) → fit S → Eligible A r S → fit (A.step r S)
  pub step_is : (r : ℕ) (S : A.State) → fit S → Eligible A r S
      → 𝓢.same (view (A.step r S)) (𝓢.runner.step r (view S))

module _ (A : Runner) (𝓢 : System) (fit : A.State → Type 0) (view : A.State → 𝓢.runner.State)
    (𝓥 : Viewed A 𝓢 fit view) where
  open 𝓢 use {runner, same}

  abbrev pub Shows : A.State → runner.State → Type 0
  Shows S T = fit S × same (view S) T
