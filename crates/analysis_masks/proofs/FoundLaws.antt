-- The paper's report and step bound determine what the calls return.
use Rattle.std.proofs.Common.{◌≡◌, ℕ, ◌<◌, Bool, List, Option, Some, None, Result, Ok, Err, refl, ap, ap₂, sym, subst, arith}
use Rattle.std.proofs.Props.{props}
use Rattle.refusal.specs.declared.Refusal.{Refusal}
use Rattle.refusal.proofs.RefusalLaws.{not_done, refusal_unique}
use Rattle.analysis_marks.specs.declared.Failing.{Failing}
use Rattle.analysis_masks.specs.declared.found.Summary.{Summary}
use Rattle.analysis_masks.specs.declared.found.Findings.{Findings}
use Rattle.analysis_masks.specs.Report.{Report}
use Rattle.analysis_masks.specs.Bound.{Bound}
use Rattle.analysis_masks.specs.Found.{pair_of, report_in, report_of, bound_of}

-- what is known of the first failing pair has one proof, so the four parts that are told make up a summary
abbrev None-told : ℕ → Option Failing → Type 0
None-told k o = o ≡ None → k ≡ 0

abbrev Some-told : ℕ → Option Failing → Type 0
Some-told k o = (f : Failing) → o ≡ Some f → (0 < k) × (f.first < f.second)

abbrev Told : Type 0
Told = Bool × ℕ × ℕ × Option Failing

abbrev made : (t : Told) → None-told t.2 t.3 → Some-told t.2 t.3 → Summary
made t n s = record { cleared = t.0; faulty = t.1; failing = t.2; first = t.3; none = n; some = s }

one_proof : (t : Told) (n m : None-told t.2 t.3) (s r : Some-told t.2 t.3) → made t n s ≡ made t m r
one_proof t n m s r =
    let p : IsProp (None-told t.2 t.3) = hlevel props in
    let q : IsProp (Some-told t.2 t.3) = hlevel props in
    ap₂ (made t) (p n m) (q s r)

same-made : (t u : Told) → t ≡ u → (n : None-told t.2 t.3) (m : None-told u.2 u.3) (s : Some-told t.2 t.3) (r : Some-told u.2 u.3)
    → made t n s ≡ made u m r
same-made t u e =
    subst
    (λ (u : Told). (n : None-told t.2 t.3) (m : None-told u.2 u.3) (s : Some-told t.2 t.3) (r : Some-told u.2 u.3) → made t n s ≡ made u m r)
    e (one_proof t)

-- the four numbers of a pair tell whether there is one: its first rule is below its second
same-pair : (k : ℕ) (o p : Option Failing) → Some-told k o → Some-told k p → pair_of o ≡ pair_of p → o ≡ p
same-pair k None None s r e = refl
same-pair k None (Some f) s r e = let z : ⊥ = omega (arith, (r f refl).1, ap (λ (x : Failing). x.second) e) in absurd z
same-pair k (Some f) None s r e = let z : ⊥ = omega (arith, (s f refl).1, ap (λ (x : Failing). x.second) e) in absurd z
same-pair k (Some f) (Some g) s r e = ap (λ (x : Failing). Some x) e

same-findings : (f g : Findings) → report_in f.summary f.marks ≡ report_in g.summary g.marks → f ≡ g
same-findings f g e =
    let v = f.summary in
    let w = g.summary in
    let failing : v.failing ≡ w.failing = ap (λ (r : Report). r.failing) e in
    let first : v.first ≡ w.first =
    same-pair v.failing v.first w.first v.some (λ h i. subst (λ (k : ℕ). (0 < k) × (h.first < h.second)) (sym failing) (w.some h i))
    (ap (λ (r : Report). pair r) e) in
    let told : (v.cleared, v.faulty, v.failing, v.first) ≡ (w.cleared, w.faulty, w.failing, w.first) =
    cc (ap (λ (r : Report). r.cleared) e, ap (λ (r : Report). r.faulty) e, failing, first) in
    let summary : v ≡ w = same-made _ _ told v.none w.none v.some w.some in
    ap₂ (λ (v : Summary) (marks : List ℕ). record { summary = v; marks = marks }) summary (ap (λ (r : Report). r.marks) e)
  where
    pair : Report → Failing
    pair r = record { first = r.first; second = r.second; culprit = r.culprit; other = r.other }

-- a report determines what analysis::report returns
pub report_determines : (x y : Result Findings Refusal) → report_of x ≡ report_of y → x ≡ y
report_determines (Ok f) (Ok g) e = ap (λ (x : Findings). Ok x) (same-findings f g e)
report_determines (Ok f) (Err d) e = absurd (not_done d (sym (ap (λ (r : Report). r.number) e)))
report_determines (Err d) (Ok g) e = absurd (not_done d (ap (λ (r : Report). r.number) e))
report_determines (Err c) (Err d) e = ap Err (refusal_unique c d (ap (λ (r : Report). r.number) e) (ap (λ (r : Report). r.place) e))

-- a step bound determines what analysis::bound returns
pub bound_determines : (x y : Result ℕ Refusal) → bound_of x ≡ bound_of y → x ≡ y
bound_determines (Ok a) (Ok b) e = ap (λ (n : ℕ). Ok n) (ap (λ (b : Bound). b.bound) e)
bound_determines (Ok a) (Err d) e = absurd (not_done d (sym (ap (λ (b : Bound). b.number) e)))
bound_determines (Err d) (Ok a) e = absurd (not_done d (ap (λ (b : Bound). b.number) e))
bound_determines (Err c) (Err d) e = ap Err (refusal_unique c d (ap (λ (b : Bound). b.number) e) (ap (λ (b : Bound). b.place) e))
