-- One run after another, and priorities: where something waits, something is eligible.
use Rattle.std.specs.Prelude.{◌≡◌, refl, true, false, List, [], ◌∷◌, ◌++◌}
use Rattle.std.proofs.Common.{sym, subst, inl, inr, ⊎_elim, arith}
use Rattle.std.proofs.Math.Path.{ap}
use Rattle.std.proofs.Math.Logic.Dec
use Rattle.std.proofs.Math.Bool.{So, cond, Bool-discrete}
use Prim.Native.Nat.{ℕ, zero, suc, ◌≤◌, ◌<◌}
use Rattle.orders.proofs.FiniteLaws.{sum_spare, search_below, cond-le}
use Rattle.orders.specs.Runner.{Runner, exec, Runs, AtOrBefore, height, EligibleAtOrBefore}

module _ (𝓡 : Runner) where
  open 𝓡 use {n, State, waits, step, goes_before, goes_before-irreflexive, goes_before-transitive}

  -- ── one run after another ──
  pub runs_append : (u v : List ℕ) (S : State) → Runs 𝓡 u S → Runs 𝓡 v (exec 𝓡 u S) → Runs 𝓡 (u ++ v) S
  runs_append [] v S h k = k
  runs_append (r ∷ u) v S h k = (h.0, runs_append u v (step r S) h.1 k)

  pub exec-append : (u v : List ℕ) (S : State) → exec 𝓡 (u ++ v) S ≡ exec 𝓡 v (exec 𝓡 u S)
  exec-append [] v S = refl
  exec-append (r ∷ u) v S = exec-append u v (step r S)

  -- ── priorities ──
  pub at_or_before_then : (r s m : ℕ) → r < n → s < n → m < n
      → AtOrBefore 𝓡 r s → So (goes_before s m) → So (goes_before r m)
  at_or_before_then r s m lr ls lm h b =
      ⊎_elim (λ e. subst (λ x. So (goes_before x m)) (sym e) b)
      (λ a. goes_before-transitive r s m lr ls lm a b) h

  pub then_at_or_before : (s r m : ℕ) → s < n → r < n → m < n
      → So (goes_before s r) → AtOrBefore 𝓡 r m → So (goes_before s m)
  then_at_or_before s r m ls lr lm b h =
      ⊎_elim (λ e. subst (λ x. So (goes_before s x)) e b) (λ a. goes_before-transitive s r m ls lr lm b a) h

  height_falls : (s r : ℕ) → s < n → r < n → So (goes_before s r) → height 𝓡 s < height 𝓡 r
  unfolding height
  height_falls s r ls lr b =
      let here : ahead r s ≡ 1 = ap (λ x. cond x 1 0) b in
      omega (arith, sum_spare (ahead s) (ahead r) 1 s n each ls (omega (arith, own)))
    where
      ahead : ℕ → ℕ → ℕ
      ahead r x = cond (goes_before x r) 1 0

      own : cond (goes_before s s) 1 0 ≤ 0
      own = cond-le (goes_before s s) false false 1 (λ q. absurd (goes_before-irreflexive s ls q))

      before_r : (x : ℕ) → x < n → So (goes_before x s) → So (goes_before x r)
      before_r x lx q = goes_before-transitive x s r lx ls lr q b

      each : (x : ℕ) → x < n → ahead s x ≤ ahead r x
      each x lx =
          omega (arith, cond-le (goes_before x s) (goes_before x r) false 1 (λ q. inl (before_r x lx q)))

  -- ── where something waits, something is eligible ──
  eligible-below : (k r : ℕ) (S : State) → height 𝓡 r < k → r < n → So (waits S r) → EligibleAtOrBefore 𝓡 r S
  eligible-below zero r S f l w = absurd (omega arith)
  eligible-below (suc k) r S f l w = go (λ s. eligible-below k s S) (search_below D dec n)
    where
      D : ℕ → Type 0
      D s = So (waits S s) × So (goes_before s r)

      dec : (s : ℕ) → Dec (D s)
      dec s = Dec.and (Bool-discrete (waits S s) true) (Bool-discrete (goes_before s r) true)

      go : ((s : ℕ) → height 𝓡 s < k → s < n → So (waits S s) → EligibleAtOrBefore 𝓡 s S)
          → Dec ((s : ℕ) × (s < n) × D s)
          → EligibleAtOrBefore 𝓡 r S
      go ih (yes d) =
          let s = d.0 in
          let t = ih s (omega (arith, height_falls s r d.1 l d.2.1)) d.1 d.2.0 in
          let ahead = at_or_before_then t.rule s r t.eligible.below d.1 l t.ahead d.2.1 in
          record { rule = t.rule; eligible = t.eligible; ahead = inr ahead }
      go ih (no d) =
          record {
            rule = r;
            eligible = record { below = l; waiting = w; none_before = λ s m x b. d (s, m, (x, b)) };
            ahead = inl refl;
          }

  pub eligible-at-or-before : (r : ℕ) (S : State) → r < n → So (waits S r) → EligibleAtOrBefore 𝓡 r S
  eligible-at-or-before r S l w = eligible-below (suc (height 𝓡 r)) r S (omega arith) l w

  -- (b) after any run, if something waits, the run goes on
  pub goes_on : (u : List ℕ) (S : State) → Runs 𝓡 u S → (r : ℕ) → r < n → So (waits (exec 𝓡 u S) r)
      → (s : ℕ) × Runs 𝓡 (u ++ (s ∷ [])) S
  goes_on u S h r l w =
      let t = eligible-at-or-before r (exec 𝓡 u S) l w in
      (t.rule, runs_append u (t.rule ∷ []) S h (t.eligible, tt))
