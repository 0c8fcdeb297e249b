-- A refusal's number is not 0, and no other refusal has its number and its place.
use Rattle.std.proofs.Common.{◌≡◌, ℕ, Result, Ok, Err, refl, ap, ap₂, sym, ◌∙◌, ◌≤◌, arith, eqb, cond}
use Rattle.refusal.specs.declared.Fault.{Fault}
use Rattle.refusal.specs.declared.Fault.TheVariants.{Counts, Cells, Forms, Twice, Name}
use Rattle.refusal.specs.declared.Refusal.{Refusal}
use Rattle.refusal.specs.declared.Refusal.TheVariants.{Length, Edition, Sizes, Contents, Rule, Cycle, Unfit, NoRule, NotWaiting, HeldBack, Posting, Endless, Short}
use Rattle.refusal.specs.Answer.{Answer}
use Rattle.refusal.specs.RefusalNumbers.{fault_number, number_of, place_of, answer_of}

-- "rule by rule 5 to 9"
pub fault_is : (f : Fault) → (5 ≤ fault_number f) × (fault_number f ≤ 9)
fault_is Counts = (omega arith, omega arith)
fault_is Cells = (omega arith, omega arith)
fault_is Forms = (omega arith, omega arith)
fault_is Twice = (omega arith, omega arith)
fault_is Name = (omega arith, omega arith)

pub not_done : (e : Refusal) → number_of e ≡ 0 → ⊥
not_done Length e = omega arith
not_done Edition e = omega arith
not_done Sizes e = omega arith
not_done Contents e = omega arith
not_done (Rule f r) e = omega (arith, fault_is f)
not_done Cycle e = omega arith
not_done Unfit e = omega arith
not_done NoRule e = omega arith
not_done NotWaiting e = omega arith
not_done HeldBack e = omega arith
not_done Posting e = omega arith
not_done Endless e = omega arith
not_done Short e = omega arith

-- the fault or the refusal with a number, so that equal numbers come from equal refusals
abbrev fault_with : ℕ → Fault
fault_with n = cond (eqb n 5) Counts (cond (eqb n 6) Cells (cond (eqb n 7) Forms (cond (eqb n 8) Twice Name)))

abbrev refusal_with : ℕ → ℕ → Refusal
refusal_with n p =
    cond (eqb n 1) Length (cond (eqb n 2) Edition (cond (eqb n 3) Sizes (cond (eqb n 4) Contents
    (cond (eqb n 10) Cycle (cond (eqb n 11) Unfit (cond (eqb n 12) NoRule (cond (eqb n 13) NotWaiting
    (cond (eqb n 14) HeldBack (cond (eqb n 16) Posting (cond (eqb n 17) Endless (cond (eqb n 18) Short (Rule (fault_with n) p))))))))))))

fault_back : (f : Fault) → fault_with (fault_number f) ≡ f
fault_back Counts = refl
fault_back Cells = refl
fault_back Forms = refl
fault_back Twice = refl
fault_back Name = refl

rule_back : (f : Fault) (p : ℕ) → refusal_with (fault_number f) p ≡ Rule f p
rule_back Counts p = refl
rule_back Cells p = refl
rule_back Forms p = refl
rule_back Twice p = refl
rule_back Name p = refl

refusal_back : (e : Refusal) → refusal_with (number_of e) (place_of e) ≡ e
refusal_back Length = refl
refusal_back Edition = refl
refusal_back Sizes = refl
refusal_back Contents = refl
refusal_back (Rule f r) = rule_back f r
refusal_back Cycle = refl
refusal_back Unfit = refl
refusal_back NoRule = refl
refusal_back NotWaiting = refl
refusal_back HeldBack = refl
refusal_back Posting = refl
refusal_back Endless = refl
refusal_back Short = refl

pub fault_unique : (f g : Fault) → fault_number f ≡ fault_number g → f ≡ g
fault_unique f g e = sym (fault_back f) ∙ (ap fault_with e ∙ fault_back g)

pub refusal_unique : (d e : Refusal) → number_of d ≡ number_of e → place_of d ≡ place_of e → d ≡ e
refusal_unique d e n p = sym (refusal_back d) ∙ (ap₂ refusal_with n p ∙ refusal_back e)

-- a call's paper answer determines what it returns where that has nothing beside it
pub answer_unique : (a b : Result (Unit {0}) Refusal) → answer_of a ≡ answer_of b → a ≡ b
answer_unique (Ok x) (Ok y) e = refl
answer_unique (Ok x) (Err d) e = absurd (not_done d (sym (ap (λ (a : Answer). a.number) e)))
answer_unique (Err d) (Ok x) e = absurd (not_done d (ap (λ (a : Answer). a.number) e))
answer_unique (Err c) (Err d) e = ap Err (refusal_unique c d (ap (λ (a : Answer). a.number) e) (ap (λ (a : Answer). a.place) e))

-- what is done has number 0, and what has number 0 is done
pub done_ok : {A : Type 0} (a : Result A Refusal) → (answer_of a).number ≡ 0 → (x : A) × (a ≡ Ok x)
done_ok (Ok x) e = (x, refl)
done_ok (Err d) e = absurd (not_done d e)
