-- The run is the iteration of the step on the lowest-numbered eligible rule, and counts those steps.
use Rattle.std.specs.Prelude.{Err}
use mathlib.Core.Path.{◌≡◌, refl, sym, ap, ◌∙◌, subst}
use mathlib.Core.Bool.{true}
use Prim.Native.Nat.{ℕ, zero, suc, ◌+◌, ◌-◌, ◌<◌, ◌≤◌}
use native.Mathlib.Decide.{ℕ_discrete}
use native.Mathlib.Omega.{arith}
use borrow.Author.Tests.{eq-eqb, ne_eqb}
use Rattle.table.specs.Table.{Table}
use Rattle.refusal.specs.declared.Refusal.{Refusal}
use Rattle.refusal.specs.Answer.{Answer}
use Rattle.refusal.specs.RefusalNumbers.{answer_of, number_of}
use Rattle.refusal.proofs.RefusalLaws.{not_done}
use Rattle.table.specs.Check.{check_of, Sound}
use Rattle.machine_spec.specs.declared.State.{State}
use Rattle.machine_spec.specs.State.{state_bad, Fits, lowest_of}
use Rattle.machine_spec.specs.Step.{effect, moved, step_of}
use Rattle.machine_spec.proofs.EffectLaws.{effect-fits}
use Rattle.machine_spec.proofs.StepLaws.{step_is}
use Rattle.machine_spec.proofs.EligibleLaws.{lowest-eligible, lowest-below}
use Rattle.machine_spec.specs.Run.{Ran, ran, later, runs, run_of, ran_of}

-- ---- one step of a run

-- of the lowest-numbered eligible rule
abbrev pub next : Table → State → State
next t s = effect t s (lowest_of t s)

later-none : (x : Ran) → x ≡ later 0 x
later-none x = ap (ran x.number x.place x.state) (omega arith)

later_more : (n : ℕ) (x : Ran) → later n (later 1 x) ≡ later (n + 1) x
later_more n x = ap (ran x.number x.place x.state) (omega arith)

pub runs_none : (t : Table) (s : State) (budget : ℕ) → s.waiting ≡ 0 → runs t s budget ≡ ran 0 255 s 0
unfolding runs
runs_none t s zero e = rw (eq-eqb s.waiting 0 e)
runs_none t s (suc budget) e = rw (eq-eqb s.waiting 0 e)

pub runs-spent : (t : Table) (s : State) → (s.waiting ≡ 0 → ⊥) → runs t s 0 ≡ ran 15 255 s 0
unfolding runs
runs-spent t s ne = rw (ne_eqb s.waiting 0 ne)

pub runs-more : (t : Table) (s : State) (budget : ℕ) → (s.waiting ≡ 0 → ⊥)
    → runs t s (suc budget) ≡ later 1 (runs t (next t s) budget)
unfolding runs
runs-more t s budget ne = rw (ne_eqb s.waiting 0 ne)

-- ---- a run is steps of the lowest-numbered eligible rule

-- n calls of the step, one after another, each done and each on that rule
pub data LowestSteps (t : Table) : State → ℕ → State → Type 0 where
  none : {s : State} → LowestSteps t s 0 s
  more : {s u : State} {n : ℕ} → step_of t s (lowest_of t s) ≡ moved 0 255 (next t s) → LowestSteps t (next t s) n u
      → LowestSteps t s (suc n) u

-- how a run ends: nothing waits, or the budget is used while something waits
pub data RunEnd (budget : ℕ) (x : Ran) : Type 0 where
  done : x.number ≡ 0 → x.steps ≤ budget → x.state.waiting ≡ 0 → RunEnd budget x
  spent : x.number ≡ 15 → x.steps ≡ budget → (x.state.waiting ≡ 0 → ⊥) → RunEnd budget x

pub record RanSo (t : Table) (s : State) (budget : ℕ) (x : Ran) : Type 0 where
  pub steps : LowestSteps t s x.steps x.state
  pub fits : Fits t x.state
  pub place : x.place ≡ 255
  pub ended : RunEnd budget x

one_later : {t : Table} {s : State} {budget : ℕ} {x : Ran} → step_of t s (lowest_of t s) ≡ moved 0 255 (next t s)
    → RanSo t (next t s) budget x → RanSo t s (suc budget) (later 1 x)
one_later {t} {s} {budget} {x} e h =
    record {
      steps = subst (λ (n : ℕ). LowestSteps t s n x.state) (omega arith) (more e h.steps);
      fits = h.fits;
      place = h.place;
      ended = end h.ended;
    }
  where
    end : RunEnd budget x → RunEnd (suc budget) (later 1 x)
    end (done a b c) = done a (omega arith) c
    end (spent a b c) = spent a (omega arith) c

runs-still : (t : Table) (s : State) (budget : ℕ) → Fits t s → s.waiting ≡ 0 → RanSo t s budget (runs t s budget)
runs-still t s budget h e =
    subst (RanSo t s budget) (sym (runs_none t s budget e))
    (record { steps = none; fits = h; place = refl; ended = done refl (omega arith) e })

pub runs-steps : (t : Table) (s : State) (budget : ℕ) → Sound t → Fits t s → RanSo t s budget (runs t s budget)
runs-steps t s zero sd h = pick (ℕ_discrete s.waiting 0)
  where
    pick : Dec (s.waiting ≡ 0) → RanSo t s 0 (runs t s 0)
    pick (yes e) = runs-still t s 0 h e
    pick (no ne) =
        subst (RanSo t s 0) (sym (runs-spent t s ne))
        (record { steps = none; fits = h; place = refl; ended = spent refl refl ne })
runs-steps t s (suc budget) sd h = pick (ℕ_discrete s.waiting 0) (runs-steps t (next t s) budget sd)
  where
    pick : Dec (s.waiting ≡ 0) → (Fits t (next t s) → RanSo t (next t s) budget (runs t (next t s) budget))
        → RanSo t s (suc budget) (runs t s (suc budget))
    pick (yes e) rest = runs-still t s (suc budget) h e
    pick (no ne) rest =
        let l : lowest_of t s < t.n = lowest-below t s sd h ne in
        subst (RanSo t s (suc budget)) (sym (runs-more t s budget ne))
        (one_later (step_is t s (lowest_of t s) sd h l (lowest-eligible t s sd h ne).1)
        (rest (effect-fits t s (lowest_of t s) sd h l)))

-- ---- the call
module _ (t : Table) (s : State) (budget : ℕ) where
  -- refused by the table; refused by 11; run
  pub run-table : (e : Refusal) → answer_of {A = Unit {0}} (Err e) ≡ check_of t → ran_of s (Err e) ≡ run_of t s budget
  unfolding run_of
  run-table e q = rw (← q, ne_eqb (number_of e) 0 (not_done e))

  pub run_11 : Sound t → state_bad t s ≡ true → run_of t s budget ≡ ran 11 255 s 0
  unfolding run_of
  run_11 sd e = rw (ap (λ (a : Answer). a.number) sd.checked, e)

  pub run_is : Sound t → Fits t s → run_of t s budget ≡ runs t s budget
  unfolding run_of
  run_is sd h = rw (ap (λ (a : Answer). a.number) sd.checked, h.good)

-- ---- a run that has taken some of its steps

-- from s with this budget, the run stands at `now` after `steps`
pub record StandsAt (t : Table) (s : State) (budget : ℕ) (now : State) (steps : ℕ) : Type 0 where
  pub is : runs t s budget ≡ later steps (runs t now (budget - steps))

module _ (t : Table) (s : State) (budget : ℕ) where
  pub stands-start : StandsAt t s budget s 0
  stands-start = record { is = later-none (runs t s budget) ∙ ap (λ (n : ℕ). later 0 (runs t s n)) (omega arith) }

  pub stands-turn : (now : State) (steps : ℕ) → steps < budget → (now.waiting ≡ 0 → ⊥) → StandsAt t s budget now steps
      → StandsAt t s budget (next t now) (steps + 1)
  stands-turn now steps l ne h =
      let e : budget - steps ≡ suc (budget - (steps + 1)) = omega arith in
      record {
        is =
            h.is ∙ ap (λ (n : ℕ). later steps (runs t now n)) e
            ∙ ap (later steps) (runs-more t now (budget - (steps + 1)) ne)
            ∙ later_more steps (runs t (next t now) (budget - (steps + 1)));
      }

  pub stands-done : (now : State) (steps : ℕ) → now.waiting ≡ 0 → StandsAt t s budget now steps
      → runs t s budget ≡ ran 0 255 now steps
  stands-done now steps e h =
      h.is ∙ ap (later steps) (runs_none t now (budget - steps) e) ∙ ap (ran 0 255 now) (omega arith)

  pub stands-spent : (now : State) (steps : ℕ) → (now.waiting ≡ 0 → ⊥) → steps ≡ budget → StandsAt t s budget now steps
      → runs t s budget ≡ ran 15 255 now steps
  stands-spent now steps ne e h =
      let z : budget - steps ≡ 0 = omega arith in
      h.is ∙ ap (λ (n : ℕ). later steps (runs t now n)) z ∙ ap (later steps) (runs-spent t now ne)
      ∙ ap (ran 15 255 now) (omega arith)
