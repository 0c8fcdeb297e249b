-- The paper's answer determines what fresh, step, post and run return.
use Rattle.std.proofs.Common.{◌≡◌, ℕ, Result, Ok, Err, refl, ap, sym, ◌∙◌, arith}
use Rattle.refusal.specs.declared.Refusal.{Refusal}
use Rattle.refusal.proofs.RefusalLaws.{not_done, refusal_unique}
use Rattle.refusal.specs.RefusalNumbers.{number_of}
use Rattle.machine_spec.specs.declared.State.{State}
use Rattle.machine_spec.specs.declared.End.{End}
use Rattle.machine_spec.specs.declared.End.TheVariants.{Rest, Spent}
use Rattle.machine_spec.specs.declared.Run.{Run}
use Rattle.machine_spec.specs.Step.{Moved, moved_of}
use Rattle.machine_spec.specs.Run.{Ran, end_number, ran_of}
use Rattle.game.proofs.LoopLaws.{not_spent}

pub moved_determines : (given : State) (a b : Result State Refusal) → moved_of given a ≡ moved_of given b → a ≡ b
moved_determines given (Ok s) (Ok t) e = ap (λ (s : State). Ok s) (ap (λ (m : Moved). m.state) e)
moved_determines given (Ok s) (Err d) e = absurd (not_done d (sym (ap (λ (m : Moved). m.number) e)))
moved_determines given (Err d) (Ok s) e = absurd (not_done d (ap (λ (m : Moved). m.number) e))
moved_determines given (Err c) (Err d) e = ap Err (refusal_unique c d (ap (λ (m : Moved). m.number) e) (ap (λ (m : Moved). m.place) e))

-- 15 is no refusal, and nor is 0
no_end : (x : End) (d : Refusal) → end_number x ≡ number_of d → ⊥
no_end Rest d e = not_done d (sym e)
no_end Spent d e = not_spent d (sym e)

same-end : (x y : End) → end_number x ≡ end_number y → x ≡ y
same-end Rest Rest e = refl
same-end Rest Spent e = let z : ⊥ = omega (arith, e) in absurd z
same-end Spent Rest e = let z : ⊥ = omega (arith, e) in absurd z
same-end Spent Spent e = refl

same-run : (x y : Run) → x.state ≡ y.state → x.steps ≡ y.steps → x.end ≡ y.end → x ≡ y
same-run x y s n e =
    ap (λ (t : State). record { state = t; steps = x.steps; end = x.end }) s
    ∙ (ap (λ (k : ℕ). record { state = y.state; steps = k; end = x.end }) n ∙ ap (λ (z : End). record { state = y.state; steps = y.steps; end = z }) e)

pub ran_determines : (given : State) (a b : Result Run Refusal) → ran_of given a ≡ ran_of given b → a ≡ b
ran_determines given (Ok x) (Ok y) e =
    ap (λ (r : Run). Ok r) (same-run x y (ap (λ (r : Ran). r.state) e) (ap (λ (r : Ran). r.steps) e) (same-end x.end y.end (ap (λ (r : Ran). r.number) e)))
ran_determines given (Ok x) (Err d) e = absurd (no_end x.end d (ap (λ (r : Ran). r.number) e))
ran_determines given (Err d) (Ok x) e = absurd (no_end x.end d (sym (ap (λ (r : Ran). r.number) e)))
ran_determines given (Err c) (Err d) e = ap Err (refusal_unique c d (ap (λ (r : Ran). r.number) e) (ap (λ (r : Ran). r.place) e))
