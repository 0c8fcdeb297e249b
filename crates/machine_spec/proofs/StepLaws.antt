-- The step's promise, as laws: when it is done, what it then gives, and that Fits is kept. Later crates cite this and
-- `EffectLaws`.
use Rattle.std.specs.Prelude.{Ok, Err}
use mathlib.Core.Path.{◌≡◌, refl, sym, ap, ◌∙◌}
use mathlib.Core.Bool.{Bool, true, false, not, cond}
use mathlib.Core.List.{List}
use Prim.Native.Nat.{ℕ, zero, suc, ◌<◌}
use native.Mathlib.Omega.{arith}
use lib.Dec.{eqb-suc-zero}
use borrow.Author.Tests.{leb-false, lt-leb, ne_eqb, not-false, not-true}
use Rattle.mask.specs.First.{first_of}
use Rattle.mask.proofs.FirstLaws.{number_passed, passed_first}
use Rattle.mask.proofs.SearchLaws.{and_true_both}
use Rattle.rule.specs.Numbers.{not_zero}
use Rattle.table.specs.Table.{Table}
use Rattle.refusal.specs.declared.Refusal.{Refusal}
use Rattle.refusal.specs.Answer.{Answer}
use Rattle.refusal.specs.RefusalNumbers.{answer_of}
use Rattle.refusal.proofs.RefusalLaws.{not_done}
use Rattle.table.proofs.SoundLaws.{sound-by}
use Rattle.table.specs.Check.{answer, done, check_of, Sound}
use Rattle.machine_spec.specs.declared.State.{State}
use Rattle.machine_spec.specs.State.{state_bad, Fits, waits, held_back, eligible}
use Rattle.machine_spec.specs.Step.{effect, moved, moved_of, answered, step_numbers, step_of}
use Rattle.machine_spec.proofs.EffectLaws.{effect-fits}

-- r can be stepped: none of 11 to 14 applies
pub record Stepping (t : Table) (s : State) (r : ℕ) : Type 0 where
  pub good : state_bad t s ≡ false
  pub below : r < t.n
  pub waiting : waits s r ≡ true
  pub free : held_back t s r ≡ false

module _ (t : Table) (s : State) (r : ℕ) where
  pub stepping : first_of 0 (step_numbers t s r) ≡ 0 → Stepping t s r
  unfolding step_numbers
  stepping e =
      let p = number_passed (step_numbers t s r) refl e in
      record {
        good = p.0;
        below = leb-false t.n r p.1.0;
        waiting = not-false (waits s r) p.1.1.0;
        free = p.1.1.1.0;
      }

  pub stepping-number : Stepping t s r → first_of 0 (step_numbers t s r) ≡ 0
  unfolding step_numbers
  stepping-number h =
      passed_first 0 (step_numbers t s r) (h.good, (lt-leb t.n r h.below, (ap not h.waiting, (h.free, tt))))

-- ---- an answer
module _ (t : Table) (numbers : List (Bool × ℕ)) (given after : State) where
  -- it is done where neither the table nor the call has a number
  pub answered-done : (answered t numbers given after).number ≡ 0 → Sound t × (first_of 0 numbers ≡ 0)
  unfolding answered
  answered-done e = pick (check_of t).number (first_of 0 numbers) refl refl e
    where
      pick : (a b : ℕ) → (check_of t).number ≡ a → first_of 0 numbers ≡ b
          → (cond (not_zero a) (moved a (check_of t).place given)
          (cond (not_zero b) (moved b 255 given) (moved 0 255 after))).number ≡ 0
          → Sound t × (first_of 0 numbers ≡ 0)
      pick zero zero e q z = (sound-by t e, q)
      pick zero (suc b) e q z = let y : suc b ≡ 0 = rw (eqb-suc-zero b) at z in absurd (omega arith)
      pick (suc a) b e q z = let y : suc a ≡ 0 = rw (eqb-suc-zero a) at z in absurd (omega arith)

  -- refused by the table; refused by the call; done
  pub answered-table : ((check_of t).number ≡ 0 → ⊥)
      → answered t numbers given after ≡ moved (check_of t).number (check_of t).place given
  unfolding answered
  answered-table ne = rw (ne_eqb (check_of t).number 0 ne)

  pub answered-own : Sound t → (first_of 0 numbers ≡ 0 → ⊥) → answered t numbers given after ≡ moved (first_of 0 numbers) 255 given
  unfolding answered
  answered-own sd ne = rw (ap (λ (a : Answer). a.number) sd.checked, ne_eqb (first_of 0 numbers) 0 ne)

  pub answered-is : Sound t → first_of 0 numbers ≡ 0 → answered t numbers given after ≡ moved 0 255 after
  unfolding answered
  answered-is sd e = rw (ap (λ (a : Answer). a.number) sd.checked, e)

  -- refused, the state is the one given
  pub answered-kept : ((answered t numbers given after).number ≡ 0 → ⊥) → (answered t numbers given after).state ≡ given
  unfolding answered
  answered-kept = pick (not_zero (check_of t).number) (not_zero (first_of 0 numbers))
    where
      pick : (b c : Bool)
          → let m = cond b (moved (check_of t).number (check_of t).place given)
          (cond c (moved (first_of 0 numbers) 255 given) (moved 0 255 after)) in (m.number ≡ 0 → ⊥) → m.state ≡ given
      pick true c h = refl
      pick false true h = refl
      pick false false h = absurd (h refl)

  -- Fits is kept, done or refused
  pub answered-fits : Fits t given → (Sound t → first_of 0 numbers ≡ 0 → Fits t after)
      → Fits t (answered t numbers given after).state
  unfolding answered
  answered-fits h f = pick (check_of t).number (first_of 0 numbers) refl refl
    where
      pick : (a b : ℕ) → (check_of t).number ≡ a → first_of 0 numbers ≡ b
          → Fits t (cond (not_zero a) (moved a (check_of t).place given)
          (cond (not_zero b) (moved b 255 given) (moved 0 255 after))).state
      pick zero zero e q = f (sound-by t e) q
      pick zero (suc b) e q = rw (eqb-suc-zero b) h
      pick (suc a) b e q = rw (eqb-suc-zero a) h

-- what a call's checks tell: refused by the table; refused by its own; done
module _ (t : Table) (numbers : List (Bool × ℕ)) (given after : State) where
  pub told-table : (e : Refusal) → answer_of {A = Unit {0}} (Err e) ≡ check_of t
      → moved_of given (Err e) ≡ answered t numbers given after
  told-table e q =
      ap (λ (a : Answer). moved a.number a.place given) q
      ∙ sym (answered-table t numbers given after (λ z. not_done e (ap (λ (a : Answer). a.number) q ∙ z)))

  pub told-own : (e : Refusal) → Sound t → answer_of {A = Unit {0}} (Err e) ≡ answer (first_of 0 numbers) 255
      → moved_of given (Err e) ≡ answered t numbers given after
  told-own e sd q =
      ap (λ (a : Answer). moved a.number a.place given) q
      ∙ sym (answered-own t numbers given after sd (λ z. not_done e (ap (λ (a : Answer). a.number) q ∙ z)))

  pub told-done : Sound t → done ≡ answer (first_of 0 numbers) 255 → moved_of given (Ok after) ≡ answered t numbers given after
  told-done sd q = sym (answered-is t numbers given after sd (sym (ap (λ (a : Answer). a.number) q)))

-- ---- the step
-- done exactly when r is below n, waits, and no waiting rule goes before it
module _ (t : Table) (s : State) (r : ℕ) where
  pub step_is : Sound t → Fits t s → r < t.n → eligible t s r ≡ true → step_of t s r ≡ moved 0 255 (effect t s r)
  unfolding step_of
  step_is sd h l e =
      let p = and_true_both (waits s r) (not (held_back t s r)) e in
      answered-is t (step_numbers t s r) s (effect t s r) sd
      (stepping-number t s r
      (record { good = h.good; below = l; waiting = p.0; free = not-true (held_back t s r) p.1 }))

  pub step-done : (step_of t s r).number ≡ 0 → Sound t × Stepping t s r
  unfolding step_of
  step-done e =
      let p = answered-done t (step_numbers t s r) s (effect t s r) e in
      (p.0, stepping t s r p.1)

  pub step_fits : Fits t s → Fits t (step_of t s r).state
  unfolding step_of
  step_fits h =
      answered-fits t (step_numbers t s r) s (effect t s r) h (λ sd e. effect-fits t s r sd h (stepping t s r e).below)
