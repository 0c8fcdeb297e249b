-- The machine's own order: a run with a budget of at least the step bound is done, within the bound, and ends as every permitted order
-- does.
-- Its steps are a permitted order, so they are few; were the budget spent while rules wait, a longer order would be permitted.
use mathlib.Core.Path.{◌≡◌, refl, sym, ap, ◌∙◌, subst}
use mathlib.Core.Bool.{true}
use mathlib.Core.List.{List, [], ◌∷◌, ◌++◌}
use Prim.Native.Nat.{ℕ, suc, ◌≤◌}
use native.Mathlib.Omega.{arith}
use lib.ListN.{length, length-append}
use Rattle.table.specs.Table.{Table}
use Rattle.table.specs.Check.{Sound}
use Rattle.analysis_masks.specs.Report.{Report}
use Rattle.analysis.specs.Says.{ReportSays}
use Rattle.machine_spec.specs.declared.State.{State}
use Rattle.machine_spec.specs.Step.{Moved}
use Rattle.machine_spec.specs.Run.{Ran}
use Rattle.machine_spec.specs.State.{Fits, lowest_of}
use Rattle.machine_spec.specs.Step.{step_of}
use Rattle.machine_spec.specs.Run.{run_of, runs}
use Rattle.machine_spec.proofs.RunLaws.{next, LowestSteps, none, more, RunEnd, done, spent, RanSo, runs-steps, run_is}
use Rattle.confluence.specs.Demand.{after, Permitted, Precedes32, bound_of, EveryOrder, EndsIn, OneEnd, OwnOrder}
use Rattle.confluence.proofs.DemandLaws.{cleared_of, demand_3}

-- the steps of a run, as a permitted order
pub record StepsAsOrder (t : Table) (s : State) (n : ℕ) (u : State) : Type 0 where
  pub rules : List ℕ
  pub permitted : Permitted t s rules
  pub many : length rules ≡ n
  pub end : after t s rules ≡ u

pub steps_order : {t : Table} {s u : State} {n : ℕ} → LowestSteps t s n u → StepsAsOrder t s n u
steps_order none = record { rules = []; permitted = tt; many = refl; end = refl }
steps_order {t} (more {s = s} {u = u} {n = n} e more-steps) =
    let o : StepsAsOrder t (next t s) n u = steps_order more-steps in
    let z : (step_of t s (lowest_of t s)).state ≡ next t s = ap (λ (m : Moved). m.state) e in
    record {
      rules = lowest_of t s ∷ o.rules;
      permitted =
          (ap (λ (m : Moved). m.number) e, subst (λ (v : State). Permitted t v o.rules) (sym z) o.permitted);
      many = ap suc o.many;
      end = ap (λ (v : State). after t v o.rules) z ∙ o.end;
    }

module _ (t : Table) (s : State) (budget : ℕ) (every : EveryOrder t s) (one : OneEnd t s) (enough : bound_of t s.waiting ≤ budget) where
  own_order : (x : Ran) → RanSo t s budget x → OwnOrder t s x
  own_order x h = go h.ended
    where
      o : StepsAsOrder t s x.steps x.state
      o = steps_order h.steps

      bounded : x.steps ≤ bound_of t s.waiting
      bounded = subst (λ (n : ℕ). n ≤ bound_of t s.waiting) o.many (every.short o.rules o.permitted)

      go : RunEnd budget x → OwnOrder t s x
      go (done e l w) =
          record {
            number = e;
            steps = bounded;
            still = w;
            end = λ rs a h.
                let own : EndsIn t s o.rules x.state = record { permitted = o.permitted; is = o.end; still = w } in
                one o.rules rs x.state a own h;
          }
      go (spent e l ne) =
          let g = every.goes_on o.rules o.permitted (λ w. ne (sym (ap (λ (v : State). v.waiting) o.end) ∙ w)) in
          let long : length (o.rules ++ (g.0 ∷ [])) ≤ bound_of t s.waiting = every.short (o.rules ++ (g.0 ∷ [])) g.1 in
          absurd (omega (arith, long, length-append o.rules (g.0 ∷ []), o.many, l))

-- the corollary for the call
pub demand_3_run : (t : Table) (s : State) (r : Report) (budget : ℕ) → Precedes32 t → ReportSays t r → r.number ≡ 0 → r.cleared ≡ true
    → Fits t s → bound_of t s.waiting ≤ budget → OwnOrder t s (run_of t s budget)
demand_3_run t s r budget masks says e c f enough =
    let sd : Sound t = (cleared_of t r says e c).0 in
    let d = demand_3 t s r masks says e c f in
    subst (OwnOrder t s) (sym (run_is t s budget sd f))
    (own_order t s budget d.0 d.1 enough (runs t s budget) (runs-steps t s budget sd f))
