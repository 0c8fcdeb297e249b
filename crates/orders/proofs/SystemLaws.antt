-- States that are the same, and (a): every run is at most as long as the weight of the waiting set.
use Rattle.std.specs.Prelude.{◌≡◌, refl, Bool, false, List, [], ◌∷◌, length}
use Rattle.std.proofs.Math.Path.{ap}
use Rattle.std.proofs.Common.{inl, inr, ⊎_elim, arith}
use Rattle.std.proofs.Math.Bool.{So, cond}
use Prim.Native.Nat.{ℕ, ◌+◌, ◌≤◌, ◌<◌}
use Rattle.orders.proofs.FiniteLaws.{sum-add, sum_spare, sum_term, cond-le}
use Rattle.orders.specs.Runner.{Eligible, exec, Runs}
use Rattle.orders.specs.System.{Weighs, System, EachWaits, if_waiting, if_triggered, step_bound}

pub weighs⇒no_self_trigger : (n : ℕ) (may_trigger : ℕ → ℕ → Bool) (weight : ℕ → ℕ) → Weighs n may_trigger weight
    → (r : ℕ) → r < n → So (may_trigger r r) → ⊥
weighs⇒no_self_trigger n may_trigger weight weighs r l t =
    let e : cond (may_trigger r r) (weight r) 0 ≡ weight r = ap (λ b. cond b (weight r) 0) t in
    omega (arith, weighs r l, sum_term (λ s. cond (may_trigger r s) (weight s) 0) r n l)

module _ (𝓢 : System) where
  open 𝓢 use {runner, may_trigger, weight, same, same-is, same-waits, same_step, weighs, wakes}
  open 𝓢.runner use {n, State, waits, step}

  pub runs⇒each_waits : (u : List ℕ) (S : State) → Runs runner u S → EachWaits 𝓢 u S
  runs⇒each_waits [] S h = tt
  runs⇒each_waits (r ∷ u) S h = (h.0.below, h.0.waiting, runs⇒each_waits u (step r S) h.1)

  -- ── states that are the same ──
  pub eligible-same : (r : ℕ) {S T : State} → same S T → Eligible runner r S → Eligible runner r T
  eligible-same r {S} {T} e h =
      record {
        below = h.below;
        waiting = same-waits S T e r h.below h.waiting;
        none_before = λ s l w b. h.none_before s l (same-waits T S (same-is.symm S T e) s l w) b;
      }

  pub runs_same : (u : List ℕ) {S T : State} → same S T → Runs runner u S → Runs runner u T
  runs_same [] e h = tt
  runs_same (r ∷ u) {S} {T} e h =
      (eligible-same r e h.0, runs_same u (same_step S T e r h.0.below h.0.waiting) h.1)

  pub each_waits_same : (u : List ℕ) {S T : State} → same S T → EachWaits 𝓢 u S → EachWaits 𝓢 u T
  each_waits_same [] e h = tt
  each_waits_same (r ∷ u) {S} {T} e h =
      (h.0, same-waits S T e r h.0 h.1, each_waits_same u (same_step S T e r h.0 h.1) h.2)

  pub exec-same : (u : List ℕ) {S T : State} → same S T → EachWaits 𝓢 u S
      → same (exec runner u S) (exec runner u T)
  exec-same [] e h = e
  exec-same (r ∷ u) {S} {T} e h = exec-same u (same_step S T e r h.0 h.1) h.2

  -- ── each step takes weight away ──
  pub step_bound_falls : (r : ℕ) (S : State) → r < n → So (waits S r) → step_bound 𝓢 (step r S) < step_bound 𝓢 S
  unfolding step_bound
  step_bound_falls r S l w =
      let here : if_waiting 𝓢 S r ≡ weight r = ap (λ b. cond b (weight r) 0) w in
      let more : ℕ → ℕ = λ s. if_waiting 𝓢 S s + if_triggered 𝓢 r s in
      let spare = sum_spare (if_waiting 𝓢 T) more (weight r) r n each l (omega (arith, own)) in
      omega (arith, spare, sum-add (if_waiting 𝓢 S) (if_triggered 𝓢 r) n, weighs r l)
    where
      T : State
      T = step r S

      -- r itself waits no more, unless it may trigger itself
      own : if_waiting 𝓢 T r ≤ 0 + if_triggered 𝓢 r r
      own =
          cond-le (waits T r) false (may_trigger r r) (weight r)
          (λ q. ⊎_elim (λ p. absurd (p.0 refl)) inr (wakes r r S l l w q))

      each : (s : ℕ) → s < n → if_waiting 𝓢 T s ≤ if_waiting 𝓢 S s + if_triggered 𝓢 r s
      each s m =
          cond-le (waits T s) (waits S s) (may_trigger r s) (weight s)
          (λ q. ⊎_elim (λ p. inl p.1) inr (wakes r s S l m w q))

  -- (a)
  pub bounded : (u : List ℕ) (S : State) → Runs runner u S → length u ≤ step_bound 𝓢 S
  bounded [] S h = omega arith
  bounded (r ∷ u) S h =
      omega (arith, bounded u (step r S) h.1, step_bound_falls r S h.0.below h.0.waiting)
