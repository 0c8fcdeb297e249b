-- The theorem: where each unordered pair passes, every run is short, goes on while something waits, and all
-- runs that go as far as they can end in states that are the same. Newman's lemma over a step of an
-- eligible rule.
use Rattle.std.specs.Prelude.{◌≡◌, refl, List, [], ◌∷◌, ◌++◌, ℕ, ◌<◌}
use Rattle.std.proofs.Common.{subst, arith}
use Rattle.std.proofs.Math.Bool.{So}
use mathlib.Mathlib.Logic.Relation.ReflTransGenᴰ.{head as step_then}
use mathlib.Mathlib.Logic.Relation.ReflTransGenᴰ.{refl as no_step}
use mathlib.Mathlib.Logic.Relation.{ReflTransGenᴰ as Star}
use Rattle.std.proofs.Math.Decide.{ℕ_discrete, dec_lt}
use Rattle.orders.specs.Newman.{NormalForm, Terminating, Joinable, Respected, LocallyConfluent, Confluent}
use Rattle.orders.proofs.NewmanLaws.{confluent⇒unique_normal_forms, terminating&locally_confluent⇒confluent}
use Rattle.orders.specs.Runner.{Runner, Eligible, exec, Runs, Ended}
use Rattle.orders.proofs.RunnerLaws.{runs_append, exec-append, goes_on}
use Rattle.orders.specs.System.{System, step_bound}
use Rattle.orders.proofs.SystemLaws.{step_bound_falls, bounded, eligible-same}
use Rattle.orders.specs.Pairs.{PairCondition}
use Rattle.orders.proofs.PairsLaws.{pair_condition_flip, passes⇒pair_condition}
use Rattle.orders.proofs.JoinLaws.{pair_condition⇒joined}
use Rattle.orders.specs.Confluence.{UniqueEnds, EveryRun, Unordered, PairsPass, PairsTogether, EligibleStep}

-- ── a step of an eligible rule, as a relation of states ──
module _ (𝓡 : Runner) where
  open 𝓡 use {State, step}

  runs⇒star : (u : List ℕ) (S : State) → Runs 𝓡 u S → Star (EligibleStep 𝓡) S (exec 𝓡 u S)
  runs⇒star [] S h = no_step
  runs⇒star (r ∷ u) S h = step_then {b = step r S} (r, h.0, refl) (runs⇒star u (step r S) h.1)

  two-runs⇒star : (u v : List ℕ) (S : State) → Runs 𝓡 u S → Runs 𝓡 v (exec 𝓡 u S)
      → Star (EligibleStep 𝓡) S (exec 𝓡 v (exec 𝓡 u S))
  two-runs⇒star u v S h k =
      rw (exec-append 𝓡 u v S) at (runs⇒star (u ++ v) S (runs_append 𝓡 u v S h k))

  ended⇒normal_form : (S : State) → Ended 𝓡 S → NormalForm (EligibleStep 𝓡) S
  ended⇒normal_form S f T h = f h.0 h.1.below h.1.waiting

module _ (𝓢 : System) where
  open 𝓢 use {runner, same, same-is, same_step}
  open 𝓢.runner use {n, State, step, goes_before}

  steps_terminate : Terminating (EligibleStep runner) (step_bound 𝓢)
  steps_terminate S T h = rw h.2 at (step_bound_falls 𝓢 h.0 S h.1.below h.1.waiting)

  steps_respected : Respected (EligibleStep runner) same
  steps_respected S T U e h =
      let r = h.0 in
      let q : same U (step r T) = rw h.2 at (same_step S T e r h.1.below h.1.waiting) in
      (step r T, (r, eligible-same 𝓢 r e h.1, refl), q)

  join : PairsTogether 𝓢 → (S : State) (i j : ℕ) → Eligible runner i S → Eligible runner j S
      → Joinable (EligibleStep runner) same (step i S) (step j S)
  join pairs S i j hi hj = go (ℕ_discrete i j)
    where
      go : Dec (i ≡ j) → Joinable (EligibleStep runner) same (step i S) (step j S)
      go (yes e) =
          subst (λ x. Joinable (EligibleStep runner) same (step i S) (step x S)) e
          (step i S, step i S, no_step, no_step, same-is.refl (step i S))
      go (no ne) =
          let J = pair_condition⇒joined 𝓢 i j hi.below hj.below (pairs i j S hi hj ne) S hi hj in
          let by-i = two-runs⇒star runner J.u (j ∷ J.v) (step i S) J.runs-u.1 J.then_v in
          let by-j = two-runs⇒star runner J.v (i ∷ J.u) (step j S) J.runs-v.1 J.then_u in
          (_, _, by-i, by-j, J.meet)

  pub pairs⇒locally_confluent : PairsTogether 𝓢 → LocallyConfluent (EligibleStep runner) same
  pairs⇒locally_confluent pairs S T U h k =
      rw (h.2, k.2) at (join pairs S h.0 k.0 h.1 k.1)

  pub pairs⇒confluent : PairsTogether 𝓢 → Confluent (EligibleStep runner) same
  pairs⇒confluent pairs =
      terminating&locally_confluent⇒confluent (EligibleStep runner) same same-is (step_bound 𝓢)
      steps_terminate steps_respected (pairs⇒locally_confluent pairs)

  -- (c)
  pub pairs⇒unique_ends : PairsTogether 𝓢 → (S : State) → UniqueEnds 𝓢 S
  pairs⇒unique_ends pairs S u v h k f g =
      confluent⇒unique_normal_forms (EligibleStep runner) same same-is (pairs⇒confluent pairs) S _ _
      (runs⇒star runner u S h) (runs⇒star runner v S k)
      (ended⇒normal_form runner (exec runner u S) f) (ended⇒normal_form runner (exec runner v S) g)

  -- two rules that are eligible together are unordered
  pub unordered⇒together : ((i j : ℕ) → i < j → j < n → Unordered 𝓢 i j → PairCondition 𝓢 i j)
      → PairsTogether 𝓢
  unordered⇒together pairs i j S hi hj ne = go (dec_lt i j)
    where
      ij : So (goes_before i j) → ⊥
      ij = hj.none_before i hi.below hi.waiting

      ji : So (goes_before j i) → ⊥
      ji = hi.none_before j hj.below hj.waiting

      go : Dec (i < j) → PairCondition 𝓢 i j
      go (yes l) = pairs i j l hj.below (ij, ji)
      go (no l) = pair_condition_flip 𝓢 j i (pairs j i (omega arith) hi.below (ji, ij))

  pub passes⇒unique_ends : PairsPass 𝓢 → (S : State) → UniqueEnds 𝓢 S
  passes⇒unique_ends passes =
      pairs⇒unique_ends
      (unordered⇒together (λ i j l m un. passes⇒pair_condition 𝓢 i j (λ e. omega arith) (passes i j l m un)))

  -- "Cleared: the book ends and every unordered pair passes." That it ends is in the system's weights.
  pub passes⇒every_run : PairsPass 𝓢 → (S : State) → EveryRun 𝓢 S
  passes⇒every_run passes S =
      record {
        short = λ u h. bounded 𝓢 u S h;
        goes_on = λ u h. goes_on runner u S h;
        unique-ends = passes⇒unique_ends passes S;
      }
