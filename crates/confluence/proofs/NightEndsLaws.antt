-- Why clearing is needed, and what "not cleared" does not mean: the night book has two ends, and so no report of it says cleared; the
-- twins' pair fails, and all their orders end alike.
use mathlib.Core.Path.{◌≡◌, refl, sym, ap, ◌∙◌, subst}
use mathlib.Core.Logic.{◌⊎◌, inl, inr}
use mathlib.Core.Bool.{true, false≢true}
use mathlib.Core.List.{List, [], ◌∷◌}
use Prim.Native.Nat.{ℕ, zero, suc, ◌^◌, ◌<◌}
use native.Mathlib.Omega.{arith}
use lib.Dec.{lit<}
use lib.IntN.{pos}
use lib.ListN.{get_or}
use Rattle.mask.specs.Search as Search
use Rattle.mask.proofs.LoopsLaws.{zeros-at}
use Rattle.mask.specs.Mask as Mask
use Rattle.mask.specs.Mask.{has}
use Rattle.mask.proofs.BitsLaws.{has-zero}
use Rattle.rule.specs.Uses.{writes}
use Rattle.table.specs.Table.{Table, rule_at}
use Rattle.analysis_masks.specs.Report.{Report}
use Rattle.analysis_masks.specs.Cleared.{Cleared}
use Rattle.analysis_masks.proofs.ClearedLaws.{no_priorities-commute}
use Rattle.analysis.specs.TableMasks.{masks_of}
use Rattle.analysis.proofs.SetsLaws.{commute-writes}
use Rattle.analysis.specs.Says.{ReportSays}
use Rattle.rule_sums.specs.Sums.{at}
use Rattle.machine_spec.specs.declared.State.{State}
use Rattle.machine_spec.specs.Step.{Moved}
use Rattle.machine_spec.specs.State.{waits}
use Rattle.machine_spec.specs.Step.{step_of, moved}
use Rattle.machine_spec.proofs.StepLaws.{Stepping, step-done}
use Rattle.confluence.specs.Demand.{after, Permitted, Still, Precedes32, OneEnd}
use Rattle.confluence.proofs.DemandLaws.{demand_3, cleared_of}
use Rattle.machine_spec.proofs.NightStepsLaws.{night_table, night_state, night_evening, twins, twins_posted, other, facts}

-- ---- a done step in an order

pub record StepsTo (t : Table) (s : State) (r : ℕ) (u : State) : Type 0 where
  pub is : step_of t s r ≡ moved 0 255 u

next : {t : Table} {s u : State} {r : ℕ} → StepsTo t s r u → (rs : List ℕ) → Permitted t u rs → Permitted t s (r ∷ rs)
next {t} {s} {u} {r} d rs p = (
  ap (λ (m : Moved). m.number) d.is,
  subst (λ (v : State). Permitted t v rs) (sym (ap (λ (m : Moved). m.state) d.is)) p,
)

goes : {t : Table} {s u : State} {r : ℕ} → StepsTo t s r u → (rs : List ℕ) → after t s (r ∷ rs) ≡ after t u rs
goes {t} d rs = ap (λ (m : Moved). after t m.state rs) d.is

-- ---- the night book

pub night-masks : Precedes32 night_table
night-masks = record { small = go }
  where
    go : (i : ℕ) → i < 3 → (rule_at night_table i).precedes < 2 ^ 32
    go zero l = lit< tt
    go (suc zero) l = lit< tt
    go (suc (suc zero)) l = lit< tt
    go (suc (suc (suc i))) l = absurd (omega arith)

-- "starting with 0, cell 2 ends 9"
pub nine : Permitted night_table night_evening (0 ∷ 2 ∷ 1 ∷ []) × (after night_table night_evening (0 ∷ 2 ∷ 1 ∷ []) ≡ night_state (pos 5) (pos 6) (pos 9) 0 0)
nine = (
  next (record { is = facts.night_0 }) (2 ∷ 1 ∷ [])
      (next (record { is = facts.night_02 }) (1 ∷ []) (next (record { is = facts.night_021 }) [] tt)),
  goes (record { is = facts.night_0 }) (2 ∷ 1 ∷ []) ∙ goes (record { is = facts.night_02 }) (1 ∷ [])
      ∙ goes (record { is = facts.night_021 }) [],
)

-- "starting with 1, it ends 7"
pub seven : Permitted night_table night_evening (1 ∷ 0 ∷ 2 ∷ []) × (after night_table night_evening (1 ∷ 0 ∷ 2 ∷ []) ≡ night_state (pos 5) (pos 6) (pos 7) 0 0)
seven = (
  next (record { is = facts.night_1 }) (0 ∷ 2 ∷ [])
      (next (record { is = facts.night_10 }) (2 ∷ []) (next (record { is = facts.night_102 }) [] tt)),
  goes (record { is = facts.night_1 }) (0 ∷ 2 ∷ []) ∙ goes (record { is = facts.night_10 }) (2 ∷ [])
      ∙ goes (record { is = facts.night_102 }) [],
)

pub night-differs : OneEnd night_table night_evening → ⊥
night-differs one =
    let same = one (0 ∷ 2 ∷ 1 ∷ []) (1 ∷ 0 ∷ 2 ∷ []) (night_state (pos 5) (pos 6) (pos 9) 0 0) (night_state (pos 5) (pos 6) (pos 7) 0 0)
    (record { permitted = nine.0; is = nine.1; still = refl }) (record { permitted = seven.0; is = seven.1; still = refl }) in
    let z : pos 9 ≡ pos 7 = ap (λ (v : State). at v.cells 2) same in
    let n : ◌≡◌ {A = ℕ} 9 7 = cc in
    omega arith

-- so no report of the night book says cleared
pub night-not-cleared : (r : Report) → ReportSays night_table r → r.number ≡ 0 → r.cleared ≡ true → ⊥
night-not-cleared r says e c = night-differs (demand_3 night_table night_evening r night-masks says e c facts.evening-fits).1

-- ---- the twins: "an unordered pair may fail and still agree"

no_precedes : (r : ℕ) → get_or (masks_of twins).precedes r 0 ≡ 0
no_precedes = zeros-at 32

pub twins-not-cleared : (r : Report) → ReportSays twins r → r.number ≡ 0 → r.cleared ≡ true → ⊥
unfolding writes Search.some
twins-not-cleared r says e c =
    let d : Cleared (masks_of twins) = (cleared_of twins r says e c).1 in
    let ne : ◌≡◌ {A = ℕ} 0 1 → ⊥ = λ z. omega arith in
    commute-writes twins 0 1 (lit< tt) (lit< tt) ne
    (no_priorities-commute (masks_of twins) d no_precedes 0 1 (lit< tt) (lit< tt) ne) 1 (lit< tt) refl refl

-- a rule that the twins can step is 0 or 1, and waits
can : (s : State) (r : ℕ) → (step_of twins s r).number ≡ 0 → ((r ≡ 0) ⊎ (r ≡ 1)) × (waits s r ≡ true)
can s r e =
    let h : Stepping twins s r = (step-done twins s r e).1 in
    (two r h.below, h.waiting)
  where
    two : (r : ℕ) → r < 2 → (r ≡ 0) ⊎ (r ≡ 1)
    two zero l = inl refl
    two (suc zero) l = inr refl
    two (suc (suc r)) l = absurd (omega arith)

-- from a state in which nothing waits no order goes on
over : (rs : List ℕ) → Permitted twins (other 0) rs → after twins (other 0) rs ≡ other 0
over [] p = refl
over (r ∷ rs) p = absurd (false≢true (sym (has-zero r) ∙ (can (other 0) r p.0).1))

-- a step on r moves on to u: so does every order that begins with it
on : (s u : State) (r : ℕ) → step_of twins s r ≡ moved 0 255 u → (rs : List ℕ) → Permitted twins (step_of twins s r).state rs
    → (after twins (step_of twins s r).state rs ≡ after twins u rs) × Permitted twins u rs
on s u r e rs p =
    let z : (step_of twins s r).state ≡ u = ap (λ (m : Moved). m.state) e in
    (ap (λ (v : State). after twins v rs) z, subst (λ (v : State). Permitted twins v rs) z p)

-- the other rule is the last
last : (w r : ℕ) → (w ≡ 0 → ⊥) → step_of twins (other w) r ≡ moved 0 255 (other 0) → ((x : ℕ) → (x ≡ 0) ⊎ (x ≡ 1) → has w x ≡ true → x ≡ r)
    → (rs : List ℕ) → Permitted twins (other w) rs → Still (after twins (other w) rs) → after twins (other w) rs ≡ other 0
last w r ne e only [] p q = absurd (ne q)
last w r ne e only (x ∷ rs) p q =
    let c = can (other w) x p.0 in
    let z : x ≡ r = only x c.0 c.1 in
    let n = on (other w) (other 0) x (ap (step_of twins (other w)) z ∙ e) rs p.1 in
    n.0 ∙ over rs n.1

only_1 : (x : ℕ) → (x ≡ 0) ⊎ (x ≡ 1) → has 2 x ≡ true → x ≡ 1
unfolding Mask.has
only_1 x (inl z) h = absurd (false≢true (ap (has 2) (sym z) ∙ h))
only_1 x (inr z) h = z

only_0 : (x : ℕ) → (x ≡ 0) ⊎ (x ≡ 1) → has 1 x ≡ true → x ≡ 0
unfolding Mask.has
only_0 x (inl z) h = z
only_0 x (inr z) h = absurd (false≢true (ap (has 1) (sym z) ∙ h))

-- every order after which nothing waits ends with cell 1 at 7
pub twins-end : (rs : List ℕ) → Permitted twins twins_posted rs → Still (after twins twins_posted rs) → after twins twins_posted rs ≡ other 0
twins-end [] p q = let n : ◌≡◌ {A = ℕ} 3 0 = q in absurd (omega arith)
twins-end (r ∷ rs) p q = go (can twins_posted r p.0).0
  where
    from : (u : State) → step_of twins twins_posted r ≡ moved 0 255 u
        → ((rs : List ℕ) → Permitted twins u rs → Still (after twins u rs) → after twins u rs ≡ other 0)
        → after twins twins_posted (r ∷ rs) ≡ other 0
    from u e rest =
        let n = on twins_posted u r e rs p.1 in
        n.0 ∙ rest rs n.1 (sym (ap (λ (v : State). v.waiting) n.0) ∙ q)

    go : (r ≡ 0) ⊎ (r ≡ 1) → after twins twins_posted (r ∷ rs) ≡ other 0
    go (inl z) =
        from (other 2) (ap (step_of twins twins_posted) z ∙ facts.twin_0) (last 2 1 (λ n. omega arith) facts.twin_01 only_1)
    go (inr z) =
        from (other 1) (ap (step_of twins twins_posted) z ∙ facts.twin_1) (last 1 0 (λ n. omega arith) facts.twin_10 only_0)

pub twins-agree : OneEnd twins twins_posted
twins-agree rs us a b x y =
    sym x.is ∙ twins-end rs x.permitted (ap (λ (v : State). v.waiting) x.is ∙ x.still)
    ∙ sym (twins-end us y.permitted (ap (λ (v : State). v.waiting) y.is ∙ y.still)) ∙ y.is
