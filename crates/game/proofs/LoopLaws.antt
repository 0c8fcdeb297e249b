-- Laws of the game loop: when the run is over, how it goes on, and how it stands.
use Rattle.std.specs.Prelude.{Err}
use mathlib.Core.Path.{◌≡◌, refl, sym, ap, ap₂, ◌∙◌, subst}
use mathlib.Core.Bool.{Bool, true, false, cond}
use Prim.Native.Nat.{ℕ, zero, suc, ◌-◌, ◌≤◌, ◌<◌}
use native.Mathlib.Decide.{ℕ_discrete}
use native.Mathlib.Omega.{arith}
use lib.Dec.{eqb-suc-zero}
use Rattle.rule.specs.Numbers.{not_zero, name_taken, rule_numbers, rule_number}
use Rattle.refusal.specs.declared.Refusal.{Refusal}
use Rattle.refusal.specs.declared.Refusal.TheVariants.{Length, Edition, Sizes, Contents, Rule, Cycle, Unfit, NoRule, NotWaiting, HeldBack, Posting, Endless, Short}
use Rattle.refusal.specs.RefusalNumbers.{number_of, place_of}
use Rattle.refusal.proofs.RefusalLaws.{fault_is, not_done}
use Rattle.mask.proofs.FirstLaws.{first-each}
use Rattle.table.specs.Table.{Table, rule_at}
use Rattle.refusal.specs.Answer.{Answer}
use Rattle.table.proofs.SoundLaws.{sound-by}
use Rattle.table.specs.Check.{done, number_at, first_bad, check_answers, check_of, Sound}
use Rattle.machine_spec.specs.declared.State.{State}
use Rattle.machine_spec.specs.State.{state_bad, Fits, lowest_of}
use Rattle.machine_spec.specs.Step.{Moved, moved, step_of}
use Rattle.machine_spec.specs.Run.{Ran, ran, later, runs, run_of, ran_of}
use Rattle.machine_spec.proofs.EffectLaws.{effect-fits}
use Rattle.machine_spec.proofs.KeptLaws.{run-kept}
use Rattle.machine_spec.proofs.StepLaws.{step_is}
use Rattle.machine_spec.proofs.EligibleLaws.{lowest-eligible, lowest-below}
use Rattle.machine_spec.proofs.RunLaws.{next, runs_none, runs-spent, runs-more, run_is}
use Rattle.game.specs.GameInner.{Due}

-- a run as its two tests choose it
abbrev chosen : Table → State → Bool → Bool → ℕ → Ran
chosen t s refused bad n =
    cond refused (ran (check_of t).number (check_of t).place s 0) (cond bad (ran 11 255 s 0) (runs t s n))

-- a run with budget 0 gives back its state in 0 steps
pub stands : (t : Table) (s : State) → run_of t s 0 ≡ ran (run_of t s 0).number (run_of t s 0).place s 0
unfolding run_of runs
stands t s = pick (not_zero (check_of t).number) (state_bad t s)
  where
    pick : (a b : Bool) → chosen t s a b 0 ≡ ran (chosen t s a b 0).number (chosen t s a b 0).place s 0
    pick true b = refl
    pick false true = refl
    pick false false = refl

-- 15 is no refusal
pub not_spent : (e : Refusal) → number_of e ≡ 15 → ⊥
not_spent Length e = omega arith
not_spent Edition e = omega arith
not_spent Sizes e = omega arith
not_spent Contents e = omega arith
not_spent (Rule f r) e = omega (arith, fault_is f)
not_spent Cycle e = omega arith
not_spent Unfit e = omega arith
not_spent NoRule e = omega arith
not_spent NotWaiting e = omega arith
not_spent HeldBack e = omega arith
not_spent Posting e = omega arith
not_spent Endless e = omega arith
not_spent Short e = omega arith

-- so the table is sound where a run has spent its budget
rule_never-spent : (t : Table) (i : ℕ) → number_at t i ≡ 15 → ⊥
unfolding number_at rule_number
rule_never-spent t i =
    let no : (n : ℕ) → n < 15 → n ≡ 15 → ⊥ = λ n l e. omega arith in
    first-each (λ (n : ℕ). n ≡ 15 → ⊥) 0 (rule_numbers t.n t.k (name_taken t.rules i (rule_at t i)) (rule_at t i))
    (no 5 (omega arith), (no 6 (omega arith), (no 7 (omega arith), (no 8 (omega arith), (no 9 (omega arith), tt)))))
    (no 0 (omega arith))

check_never-spent : (t : Table) → (check_of t).number ≡ 15 → ⊥
unfolding check_of
check_never-spent t =
    let no : (n : ℕ) → n < 15 → n ≡ 15 → ⊥ = λ n l e. omega arith in
    first-each (λ (a : Answer). a.number ≡ 15 → ⊥) done (check_answers t)
    (no 3 (omega arith), (rule_never-spent t (first_bad t), (no 7 (omega arith), (no 10 (omega arith), tt))))
    (no 0 (omega arith))

pub spent-sound : (t : Table) (s : State) (n : ℕ) → (run_of t s n).number ≡ 15 → Sound t
unfolding run_of
spent-sound t s n e = pick (check_of t).number refl e
  where
    pick : (a : ℕ) → (check_of t).number ≡ a
        → (cond (not_zero a) (ran a (check_of t).place s 0) (cond (state_bad t s) (ran 11 255 s 0) (runs t s n))).number ≡ 15
        → Sound t
    pick zero q z = sound-by t q
    pick (suc a) q z = absurd (check_never-spent t (q ∙ rw (eqb-suc-zero a) at z))

-- where nothing is spent, the budget makes no difference
pub over_by : (t : Table) (s : State) (left : ℕ) → ((run_of t s 0).number ≡ 15 → ⊥) → run_of t s left ≡ run_of t s 0
unfolding run_of
over_by t s left ne = pick (not_zero (check_of t).number) (state_bad t s) ne
  where
    still : ((runs t s 0).number ≡ 15 → ⊥) → Dec (s.waiting ≡ 0) → runs t s left ≡ runs t s 0
    still f (yes e) = runs_none t s left e ∙ sym (runs_none t s 0 e)
    still f (no w) = absurd (f (ap (λ (x : Ran). x.number) (runs-spent t s w)))

    pick : (a b : Bool) → ((chosen t s a b 0).number ≡ 15 → ⊥) → chosen t s a b left ≡ chosen t s a b 0
    pick true b f = refl
    pick false true f = refl
    pick false false f = still f (ℕ_discrete s.waiting 0)

-- where the budget 0 is spent on a sound table, the state fits and rules wait
pub record Waits (t : Table) (s : State) : Type 0 where
  pub good : state_bad t s ≡ false
  pub some : s.waiting ≡ 0 → ⊥

pub spent-waits : (t : Table) (s : State) → Sound t → (run_of t s 0).number ≡ 15 → Waits t s
unfolding run_of
spent-waits t s sd e = pick (state_bad t s) refl (rw (ap (λ (a : Answer). a.number) sd.checked) at e)
  where
    pick : (b : Bool) → state_bad t s ≡ b → (cond b (ran 11 255 s 0) (runs t s 0)).number ≡ 15 → Waits t s
    pick true q z = absurd (omega arith)
    pick false q z =
        record {
          good = q;
          some = λ w.
              let y : ◌≡◌ {A = ℕ} 0 15 = sym (ap (λ (x : Ran). x.number) (runs_none t s 0 w)) ∙ z in
              absurd (omega (arith, y));
        }

-- the lowest eligible rule is due
pub lowest-due : (t : Table) (s : State) (left r : ℕ) → Sound t → Fits t s → (s.waiting ≡ 0 → ⊥) → 0 < left
    → r ≡ lowest_of t s → Due t s left r
lowest-due t s left r sd h ne l q = subst (Due t s left) (sym q) due
  where
    low : lowest_of t s < t.n
    low = lowest-below t s sd h ne

    is : step_of t s (lowest_of t s) ≡ moved 0 255 (next t s)
    is = step_is t s (lowest_of t s) sd h low (lowest-eligible t s sd h ne).1

    due : Due t s left (lowest_of t s)
    due = record {
      some_left = l;
      done = ap (λ (m : Moved). m.number) is;
      more =
          let one : left ≡ suc (left - 1) = omega arith in
          run_is t s left sd h
          ∙ ap (runs t s) one
          ∙ runs-more t s (left - 1) ne
          ∙ ap (later 1) (sym (run_is t (next t s) (left - 1) sd (effect-fits t s (lowest_of t s) sd h low)))
          ∙ ap (λ (m : Moved). later 1 (run_of t m.state (left - 1))) (sym is);
    }

-- ---- the loop

-- from s with this budget, the run stands at `now` with `left` of the budget
pub record Playing (t : Table) (s : State) (budget : ℕ) (now : State) (left : ℕ) : Type 0 where
  pub within : left ≤ budget
  pub is : run_of t s budget ≡ later (budget - left) (run_of t now left)

module _ (t : Table) (s : State) (budget : ℕ) where
  pub play-start : Playing t s budget s budget
  play-start =
      record {
        within = omega arith;
        is = ap (ran (run_of t s budget).number (run_of t s budget).place (run_of t s budget).state) (omega arith);
      }

  pub play-turn : (now : State) (left r : ℕ) → Due t now left r → Playing t s budget now left
      → Playing t s budget (step_of t now r).state (left - 1)
  play-turn now left r d p =
      let x = run_of t (step_of t now r).state (left - 1) in
      record {
        within = omega (arith, p.within);
        is =
            p.is ∙ ap (later (budget - left)) d.more
            ∙ ap (ran x.number x.place x.state) (omega (arith, p.within, d.some_left));
      }

  module _ (now : State) (left : ℕ) (over : run_of t now left ≡ run_of t now 0) (p : Playing t s budget now left) where
    pub play-end : ran (run_of t now 0).number (run_of t now 0).place now (budget - left) ≡ run_of t s budget
    play-end =
        sym (p.is ∙ ap (later (budget - left)) (over ∙ stands t now)
        ∙ ap (ran (run_of t now 0).number (run_of t now 0).place now) (omega arith))

    -- no step was made where the run is refused
    pub play_refused : (e : Refusal) → ran_of now (Err e) ≡ run_of t now 0 → ran_of s (Err e) ≡ run_of t s budget
    play_refused e q =
        let x = run_of t s budget in
        let n : number_of e ≡ x.number = ap (λ (y : Ran). y.number) q ∙ ap (λ (y : Ran). y.number) play-end in
        let k : place_of e ≡ x.place = ap (λ (y : Ran). y.place) q ∙ ap (λ (y : Ran). y.place) play-end in
        let same = run-kept t s budget (λ z. not_done e (n ∙ z)) (λ z. not_spent e (n ∙ z)) in
        ap₂ (λ (a b : ℕ). ran a b s 0) n k ∙ ap₂ (λ (u : State) (m : ℕ). ran x.number x.place u m) (sym same.0) (sym same.1)
