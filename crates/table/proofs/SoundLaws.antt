-- What a table has to which no number applies.
use mathlib.Core.Path.{◌≡◌, sym, ap, ◌∙◌, subst}
use mathlib.Core.Bool.{Bool, true, false, ◌||◌, ◌&&◌, false≢true}
use Prim.Native.Nat.{ℕ, ◌≤◌, ◌<◌}
use native.Mathlib.Nat.{le_trans}
use native.Mathlib.Omega.{arith}
use lib.Dec.{ltb, leb, eqb}
use borrow.Author.Tests.{ltb-true, ltb-false, le-ltb, le-leb, eqb-true, not-false}
use Rattle.std.proofs.Common.{Result, Ok, Err}
use Rattle.std.specs.Result.{IsErr, IsErrAnd, MatchResult}
use Rattle.std.proofs.lemmas.Result.{err_from_is_err_and}
use Rattle.refusal.specs.declared.Fault.{Fault}
use Rattle.refusal.specs.declared.Refusal.TheVariants.{Rule}
use Rattle.refusal.specs.declared.Refusal.{Refusal}
use Rattle.refusal.specs.RefusalNumbers.{answer_of, fault_of, number_of, place_of}
use Rattle.refusal.proofs.RefusalLaws.{not_done}
use Rattle.mask.specs.Search.{least}
use Rattle.mask.proofs.SearchLaws.{or_false_both, least-is}
use Rattle.mask.proofs.FirstLaws.{NoneHolds, first-passed, passed_first}
use Rattle.graph.specs.Graph.{cyclic}
use Rattle.rule.specs.Numbers.{not_zero, rule_slot_bad}
use Rattle.rule.proofs.NumbersLaws.{Clean, clean}
use Rattle.table.specs.Table.{Table, rule_at, precedes_of}
use Rattle.refusal.specs.Answer.{Answer}
use Rattle.table.specs.Check.{answer, done, sizes_bad, number_at, first_bad, first_slot, check_answers, check_of, Sound}

-- a refusal's number is not 0
pub refused : {A : Type 0} (r : Result A Refusal) (a : Answer) → answer_of r ≡ a → IsErr r → a.number ≡ 0 → ⊥
refused (Ok x) a e i z = false≢true i
refused (Err d) a e i z = not_done d (ap (λ (b : Answer). b.number) e ∙ z)

-- a fault that was told with its rule is refused by its number, with the rule's as its place
pub rule_refused : (r : Result (Unit {0}) Fault) (m : Result (Unit {0}) Refusal) (d : Refusal) (i : ℕ) (P : Fault → Refusal → Type 0)
    → MatchResult r (λ x. m ≡ Ok x) (λ f. IsErrAnd m (P f)) → m ≡ Err d → ((f : Fault) → P f d → d ≡ Rule f i)
    → answer (number_of d) (place_of d) ≡ answer (fault_of r) i
rule_refused (Ok x) m d i P h e k = absurd (cc (h, e))
rule_refused (Err f) m d i P h e k =
    let p = err_from_is_err_and m h in
    let q : p.0 ≡ d = cc (p.1, e) in
    ap (λ (x : Refusal). answer (number_of x) (place_of x)) (k f (subst (P f) q p.2))

-- the sizes that 3 does not refuse
pub record Sized (n k : ℕ) : Type 0 where
  pub rules : n ≤ 32
  pub some-cell : 1 ≤ k
  pub cells : k ≤ 32

pub sized : (n k : ℕ) → sizes_bad n k ≡ false → Sized n k
unfolding sizes_bad
sized n k e =
    let p = or_false_both (ltb 32 n || ltb k 1) (ltb 32 k) e in
    let q = or_false_both (ltb 32 n) (ltb k 1) p.0 in
    record { rules = ltb-false 32 n q.0; some-cell = ltb-false k 1 q.1; cells = ltb-false 32 k p.1 }

pub sizes-good : (n k : ℕ) → Sized n k → sizes_bad n k ≡ false
unfolding sizes_bad
sizes-good n k s = rw (le-ltb 32 n s.rules, le-ltb k 1 s.some-cell, le-ltb 32 k s.cells)

-- ---- the first number of a row that is not 0
module _ (n : ℕ) (f : ℕ → ℕ) where
  abbrev first : ℕ
  first = least n (λ i. not_zero (f i))

  pub none_first : ltb first n ≡ false → (i : ℕ) → i < n → f i ≡ 0
  none_first e i l =
      eqb-true (f i) 0
      (not-false (eqb (f i) 0) ((least-is n (λ x. not_zero (f x))).first i (le_trans l (ltb-false first n e))))

  pub first-is : ltb first n ≡ true → f first ≡ 0 → ⊥
  first-is e z = false≢true (sym (ap not_zero z) ∙ (least-is n (λ x. not_zero (f x))).is (ltb-true first n e))

-- the parts of a sound table
pub record Parts (t : Table) : Type 0 where
  pub sizes : Sized t.n t.k
  pub rules : (i : ℕ) → i < t.n → Clean t.n t.k t.rules i (rule_at t i)
  pub slots : (i : ℕ) → t.n ≤ i → i < 32 → rule_slot_bad (rule_at t i) ≡ false
  pub acyclic : cyclic t.n (precedes_of t) ≡ false

module _ (t : Table) where
  none-bad : ltb (first_bad t) t.n ≡ false → (i : ℕ) → i < t.n → Clean t.n t.k t.rules i (rule_at t i)
  unfolding first_bad number_at
  none-bad e i l = clean t.n t.k t.rules i (rule_at t i) (none_first t.n (number_at t) e i l)

  none-slot : ltb (first_slot t) 32 ≡ false → (i : ℕ) → t.n ≤ i → i < 32 → rule_slot_bad (rule_at t i) ≡ false
  unfolding first_slot
  none-slot e i h l =
      sym (ap (λ (b : Bool). b && rule_slot_bad (rule_at t i)) (le-leb t.n i h))
      ∙ (least-is 32 (λ x. leb t.n x && rule_slot_bad (rule_at t x))).first i (le_trans l (ltb-false (first_slot t) 32 e))

  -- the first rule with a number has one
  pub bad-here : ltb (first_bad t) t.n ≡ true → number_at t (first_bad t) ≡ 0 → ⊥
  unfolding first_bad
  bad-here = first-is t.n (number_at t)

  -- where the check gives 0, none of its tests holds
  none_applies : (check_of t).number ≡ 0 → NoneHolds (check_answers t)
  unfolding check_of
  none_applies =
      first-passed (λ (a : Answer). a.number ≡ 0) done (check_answers t)
      (λ b z. omega arith, (bad-here, (λ b z. omega arith, (λ b z. omega arith, tt))))

  pub parts : Sound t → Parts t
  parts s =
      let p = none_applies (ap (λ (a : Answer). a.number) s.checked) in
      record {
        sizes = sized t.n t.k p.0;
        rules = none-bad p.1.0;
        slots = none-slot p.1.1.0;
        acyclic = p.1.1.1.0;
      }

  -- a table whose check gives 0 is sound
  pub sound-by : (check_of t).number ≡ 0 → Sound t
  unfolding check_of
  sound-by e = record { checked = passed_first done (check_answers t) (none_applies e) }
