-- "A refused step, posting or run gives back the state it was given, and the run reports 0 steps."; a refused fresh state is
-- all zeros.
use mathlib.Core.Path.{◌≡◌, refl}
use mathlib.Core.Bool.{Bool, true, false, cond}
use mathlib.Core.Logic.{◌⊎◌, inl, inr, ⊎_elim}
use mathlib.Core.List.{List, [], ◌∷◌}
use Prim.Native.Nat.{ℕ, zero, suc}
use lib.Dec.{eqb}
use lib.IntN.{ℤ}
use Rattle.rule.specs.Numbers.{not_zero}
use Rattle.table.specs.Table.{Table}
use Rattle.table.specs.Check.{check_of}
use Rattle.machine_spec.specs.declared.State.{State}
use Rattle.machine_spec.specs.Run.{Ran}
use Rattle.machine_spec.specs.State.{state_bad, still, zeros}
use Rattle.machine_spec.specs.Step.{effect, step_numbers, step_of, post_numbers, post_of, fresh_of}
use Rattle.machine_spec.specs.Run.{ran, later, runs, run_of}
use Rattle.machine_spec.proofs.StepLaws.{answered-kept}
use Rattle.machine_spec.proofs.RunLaws.{next}

pub step_kept : (t : Table) (s : State) (r : ℕ) → ((step_of t s r).number ≡ 0 → ⊥) → (step_of t s r).state ≡ s
unfolding step_of
step_kept t s r = answered-kept t (step_numbers t s r) s (effect t s r)

pub post-kept : (t : Table) (s : State) (cell : ℕ) (value : ℤ) → ((post_of t s cell value).number ≡ 0 → ⊥)
    → (post_of t s cell value).state ≡ s
unfolding post_of
post-kept t s cell value = answered-kept t (post_numbers t s cell value) s _

pub fresh_kept : (t : Table) (amounts : List ℤ) → ((fresh_of t amounts).number ≡ 0 → ⊥) → (fresh_of t amounts).state ≡ zeros
unfolding fresh_of
fresh_kept t amounts = answered-kept t ((state_bad t (still amounts), 11) ∷ []) zeros (still amounts)

-- a run that was not refused is done or has its budget spent
runs_number : (t : Table) (s : State) (budget : ℕ) → ((runs t s budget).number ≡ 0) ⊎ ((runs t s budget).number ≡ 15)
unfolding runs
runs_number t s zero = pick (eqb s.waiting 0)
  where
    pick : (b : Bool) → let x = ran (cond b 0 15) 255 s 0 in (x.number ≡ 0) ⊎ (x.number ≡ 15)
    pick true = inl refl
    pick false = inr refl
runs_number t s (suc budget) = pick (eqb s.waiting 0) (runs t (next t s) budget) (runs_number t (next t s) budget)
  where
    pick : (b : Bool) (x : Ran) → (x.number ≡ 0) ⊎ (x.number ≡ 15)
        → ((cond b (ran 0 255 s 0) (later 1 x)).number ≡ 0) ⊎ ((cond b (ran 0 255 s 0) (later 1 x)).number ≡ 15)
    pick true x h = inl refl
    pick false x h = h

pub run-kept : (t : Table) (s : State) (budget : ℕ) → ((run_of t s budget).number ≡ 0 → ⊥) → ((run_of t s budget).number ≡ 15 → ⊥)
    → ((run_of t s budget).state ≡ s) × ((run_of t s budget).steps ≡ 0)
unfolding run_of
run-kept t s budget = pick (not_zero (check_of t).number) (state_bad t s)
  where
    pick : (b c : Bool)
        → let x = cond b (ran (check_of t).number (check_of t).place s 0) (cond c (ran 11 255 s 0) (runs t s budget)) in
        (x.number ≡ 0 → ⊥) → (x.number ≡ 15 → ⊥) → (x.state ≡ s) × (x.steps ≡ 0)
    pick true c h g = (refl, refl)
    pick false true h g = (refl, refl)
    pick false false h g = absurd (⊎_elim h g (runs_number t s budget))
