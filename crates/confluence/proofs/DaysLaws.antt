-- Two machines, the same postings, each made when nothing waits, and any permitted orders between them: after each posting both end in
-- the same state, by demand 3 from the state that the posting leaves, and so go on from the same state.
use mathlib.Core.Path.{◌≡◌, refl, ap₂, subst}
use mathlib.Core.Bool.{true}
use mathlib.Core.List.{List, ◌∷◌}
use Prim.Native.Nat.{ℕ}
use lib.IntN.{ℤ}
use Rattle.table.specs.Table.{Table}
use Rattle.analysis_masks.specs.Report.{Report}
use Rattle.analysis.specs.Says.{ReportSays}
use Rattle.machine_spec.specs.declared.State.{State}
use Rattle.machine_spec.specs.State.{Fits}
use Rattle.machine_spec.specs.Step.{post_of}
use Rattle.machine_spec.proofs.PostLaws.{post-fits}
use Rattle.confluence.specs.Demand.{Precedes32, Days, none, more}
use Rattle.confluence.proofs.DemandLaws.{demand_3, cleared_of, after-fits}

-- after each posting both machines are in the same state
pub same_days : (t : Table) (s : State) (r : Report) → Precedes32 t → ReportSays t r → r.number ≡ 0 → r.cleared ≡ true → Fits t s
    → (ps : List (ℕ × ℤ)) (us vs : List State) → Days t s ps us → Days t s ps vs → us ≡ vs
same_days t s r masks says e c f ps us vs none none = refl
same_days t s r masks says e c f ps us vs (more {end = a} {p = p} {rs = rs} {ps = rest} {ends = firsts} d x xs)
    (more {end = b} {rs = os} {ends = seconds} g y ys) =
    let posted = (post_of t s p.0 p.1).state in
    let fits : Fits t posted = post-fits t s p.0 p.1 f in
    let z : a ≡ b = (demand_3 t posted r masks says e c fits).1 rs os a b x y in
    let end_fits : Fits t b = subst (Fits t) y.is (after-fits t (cleared_of t r says e c).0 os posted fits) in
    ap₂ ◌∷◌ z
    (same_days t b r masks says e c end_fits rest firsts seconds (subst (λ (v : State). Days t v rest firsts) z xs) ys)
