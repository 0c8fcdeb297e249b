-- The machine's step as `orders` asks for it: rules with priorities, bodies that read and write cells, and the step's promise in terms of
-- them. It cites the laws of the step alone.
use mathlib.Core.Path.{◌≡◌, refl, sym, ap, ap₂, ◌∙◌, subst}
use mathlib.Core.Bool.{Bool, true, false, not, cond, ◌&&◌, ◌||◌, false≢true}
use mathlib.Core.List.{List}
use Prim.Native.Nat.{ℕ, ◌≤◌, ◌<◌}
use native.Mathlib.Nat.{le_trans}
use lib.Dec.{eqb}
use lib.IntN.{ℤ, pos}
use lib.ListN.{length}
use lib.Seq.{ext_get_or}
use borrow.Author.Tests.{eqb-true}
use Rattle.mask.specs.Search.{some}
use Rattle.mask.proofs.SearchLaws.{same_test, some-elim, some_intro, Found, and_true_both}
use Rattle.mask.specs.Mask.{has}
use Rattle.rule.specs.Fill.{upto}
use Rattle.rule.proofs.FillLaws.{length-upto, get_or-upto}
use Rattle.rule.specs.Uses.{assign_at, watches, reads, writes}
use Rattle.table.specs.Table.{Table, rule_at, goes_before}
use Rattle.table.specs.Check.{Sound}
use Rattle.table.proofs.SoundLaws.{parts}
use Rattle.table.proofs.BeforeLaws.{irreflexive, transitive}
use Rattle.rule_sums.specs.Sums.{at, value_of, differs as amounts-differ}
use Rattle.rule_act.specs.Amounts.{stored as together}
use Rattle.rule_act.specs.RuleActInner.{changes}
use Rattle.rule_act.proofs.ActsLaws.{fires, overflows, acted, fires-local, overflows-local}
use Rattle.rule_act.proofs.AmountsLaws.{Agree, stored_at, stored_else, value_same}
use Rattle.rule_sums.proofs.PenceLaws.{alike, same}
use Rattle.rule.proofs.CellsBelowLaws.{reads-below, targets-below}
use Rattle.machine_spec.specs.declared.State.{State}
use Rattle.machine_spec.specs.Step.{Moved}
use Rattle.machine_spec.specs.State.{Fits, waits}
use Rattle.machine_spec.proofs.HeldBackLaws.{eligible-by}
use Rattle.machine_spec.specs.Step.{step_of, effect, moved, wakes}
use Rattle.machine_spec.proofs.StepLaws.{step_is, step_fits}
use Rattle.machine_spec.proofs.StateLaws.{fits-waiting}
use Rattle.machine_spec.proofs.EffectLaws.{cells-after, waits-after, faults-after, wakes-below}
use Rattle.orders.specs.Runner.{Runner, Eligible}
use Rattle.orders.specs.Cells.{Cells, EqualOn, changed}
use Rattle.orders.proofs.CellsLaws.{changed_intro, changed-elim}
use Rattle.orders.specs.Actions.{Actions, stored}
use Rattle.orders.specs.Concrete.{Concrete}

-- ---- the amounts as a function, and back

abbrev pub amounts : State → Cells
amounts s x = at s.cells x

abbrev pub listed : Cells → List ℤ
listed c = upto 32 c

listed_at : (c : Cells) (x : ℕ) → x < 32 → at (listed c) x ≡ c x
listed_at c x l = get_or-upto 32 c (pos 0) x l

module _ (t : Table) (sound : Sound t) where
  few : t.n ≤ 32
  few = (parts t sound).sizes.rules

  small : t.k ≤ 32
  small = (parts t sound).sizes.cells

  -- what runs
  abbrev pub runner : Runner
  runner =
      record {
        n = t.n;
        State = State;
        waits = waits;
        step = λ r s. (step_of t s r).state;
        goes_before = goes_before t;
        goes_before-irreflexive = irreflexive t sound;
        goes_before-transitive = λ r s u lr ls lu a b. transitive t r s u ls a b;
      }

  -- two functions that agree on what r reads, as lists
  pub agree : (r : ℕ) (c d : Cells) → r < t.n → EqualOn t.k (reads (rule_at t r)) c d → Agree (reads (rule_at t r)) (listed c) (listed d)
  agree r c d l h =
      record {
        on = λ x e.
            let lx : x < t.k = reads-below t.n t.k (rule_at t r) ((parts t sound).rules r l).cells x e in
            listed_at c x (le_trans lx small) ∙ h x lx e ∙ sym (listed_at d x (le_trans lx small));
      }

  -- what a target gets, by the cells that r reads
  pub value-local : (r : ℕ) (c d : Cells) (x : ℕ) → r < t.n → EqualOn t.k (reads (rule_at t r)) c d → writes (rule_at t r) x ≡ true
      → at (together (rule_at t r) (listed c)) x ≡ at (together (rule_at t r) (listed d)) x
  unfolding writes
  value-local r c d x l h e =
      let rule = rule_at t r in
      let clean = (parts t sound).rules r l in
      let w : Found rule.a (λ j. eqb x (assign_at rule j).target) = some-elim rule.a (λ j. eqb x (assign_at rule j).target) e in
      let q : x ≡ (assign_at rule w.at).target = eqb-true x (assign_at rule w.at).target w.is in
      let low : (assign_at rule w.at).target < 32 = le_trans (targets-below t.n t.k rule clean.cells w.at w.lt) small in
      let here : (f : Cells) → at (together rule (listed f)) x ≡ value_of (assign_at rule w.at) (listed f) =
      λ f.
      ap (at (together rule (listed f))) q
      ∙ stored_at rule (listed f) clean.targets w.at w.lt
      (subst (λ (m : ℕ). (assign_at rule w.at).target < m) (sym (length-upto 32 f)) low) in
      here c ∙ value_same rule (listed c) (listed d) (agree r c d l h) w.at w.lt ∙ sym (here d)

  -- what a rule does with the amounts before its step
  abbrev pub actions : Actions t.k
  actions =
      record {
        n = t.n;
        watches = λ r x. watches (rule_at t r) x;
        reads = λ r x. reads (rule_at t r) x;
        writes = λ r x. writes (rule_at t r) x;
        stores = λ r c. fires (rule_at t r) (listed c);
        value = λ r c x. at (together (rule_at t r) (listed c)) x;
        faults = λ r c. overflows (rule_at t r) (listed c);
        goes_before = goes_before t;
        stores-local = λ r c d l h. fires-local (rule_at t r) (listed c) (listed d) (agree r c d l h);
        value-local = λ r c d x l lx h e. value-local r c d x l h e;
        faults-local = λ r c d l h. overflows-local (rule_at t r) (listed c) (listed d) (agree r c d l h);
      }

  -- ---- an eligible rule of `orders` is one that the machine steps

  listed-is : (s : State) → Fits t s → listed (amounts s) ≡ s.cells
  listed-is s f =
      ext_get_or (pos 0) (listed (amounts s)) s.cells (length-upto 32 (amounts s) ∙ sym f.long)
      (λ x l. listed_at (amounts s) x (subst (λ (m : ℕ). x < m) (length-upto 32 (amounts s)) l))

  pub steps-done : (r : ℕ) (s : State) → Fits t s → Eligible runner r s → step_of t s r ≡ moved 0 255 (effect t s r)
  steps-done r s f h =
      step_is t s r sound f h.below
      (eligible-by t s r h.waiting (λ x l w b. h.none_before x ((fits-waiting t s f).lt x w) w b))

  module _ (r : ℕ) (s : State) (f : Fits t s) (h : Eligible runner r s) where
    next : State
    next = (step_of t s r).state

    next-is : next ≡ effect t s r
    unfolding next
    next-is = ap (λ (m : Moved). m.state) (steps-done r s f h)

    acts : (x : ℕ) → x < t.k → at (acted (rule_at t r) s.cells) x ≡ stored t.k actions r (amounts s) x
    unfolding stored
    acts x l = rw (listed-is s f) (pick (fires (rule_at t r) s.cells) (writes (rule_at t r) x) refl)
      where
        long : x < length s.cells
        long = subst (λ (m : ℕ). x < m) (sym f.long) (le_trans l small)

        pick : (b w : Bool) → writes (rule_at t r) x ≡ w
            → at (cond b (together (rule_at t r) s.cells) s.cells) x
            ≡ cond (b && w) (at (together (rule_at t r) s.cells) x) (at s.cells x)
        pick true true e = refl
        pick true false e = stored_else (rule_at t r) s.cells x long e
        pick false w e = refl

    pub cell-step : (x : ℕ) → x < t.k → amounts (step_of t s r).state x ≡ stored t.k actions r (amounts s) x
    unfolding next
    cell-step x l = ap (λ (u : State). at u.cells x) next-is ∙ ap (λ (c : List ℤ). at c x) (cells-after t s r) ∙ acts x l

    pub fault-step : (x : ℕ) → x < t.n
        → has (step_of t s r).state.faults x ≡ (has s.faults x || (eqb x r && overflows (rule_at t r) (listed (amounts s))))
    unfolding next
    fault-step x l =
        ap (λ (u : State). has u.faults x) next-is
        ∙ faults-after t s r x (le_trans l few)
        ∙ ap (λ (c : List ℤ). has s.faults x || (eqb x r && overflows (rule_at t r) c)) (sym (listed-is s f))

    woken : (x : ℕ) → x < t.n
        → wakes t s.cells (acted (rule_at t r) s.cells) x
        ≡ changed t.k (watches (rule_at t x)) (amounts s) (stored t.k actions r (amounts s))
    woken x l = wakes-below t sound s.cells (acted (rule_at t r) s.cells) x l ∙ same_test _ _ there back
      where
        after : List ℤ
        after = acted (rule_at t r) s.cells

        there : some t.k (λ y. watches (rule_at t x) y && changes s.cells after y) ≡ true
            → changed t.k (watches (rule_at t x)) (amounts s) (stored t.k actions r (amounts s)) ≡ true
        there e =
            let w : Found t.k (λ y. watches (rule_at t x) y && changes s.cells after y) =
            some-elim t.k (λ y. watches (rule_at t x) y && changes s.cells after y) e in
            let p = and_true_both (watches (rule_at t x) w.at) (changes s.cells after w.at) w.is in
            changed_intro t.k (watches (rule_at t x)) (amounts s) (stored t.k actions r (amounts s)) w.at w.lt p.0
            (λ z.
            let same : at s.cells w.at ≡ at after w.at = z ∙ sym (acts w.at w.lt) in
            false≢true
            (sym (ap (λ (v : ℤ). amounts-differ v (at after w.at)) same ∙ alike (at after w.at)) ∙ p.1))

        back : changed t.k (watches (rule_at t x)) (amounts s) (stored t.k actions r (amounts s)) ≡ true
            → some t.k (λ y. watches (rule_at t x) y && changes s.cells after y) ≡ true
        back e =
            let w = changed-elim t.k (watches (rule_at t x)) (amounts s) (stored t.k actions r (amounts s)) e in
            some_intro t.k (λ y. watches (rule_at t x) y && changes s.cells after y) w.0 w.1
            (ap₂ ◌&&◌ w.2 (differ w.0 w.1 w.3 (changes s.cells after w.0) refl))
          where
            differ : (y : ℕ) → y < t.k → (amounts s y ≡ stored t.k actions r (amounts s) y → ⊥) → (b : Bool)
                → changes s.cells after y ≡ b → changes s.cells after y ≡ true
            differ y ly ne true q = q
            differ y ly ne false q = absurd (ne (same (at s.cells y) (at after y) q ∙ acts y ly))

    pub waits-step : (x : ℕ) → x < t.n
        → waits (step_of t s r).state x
        ≡ ((waits s x && not (eqb x r)) || changed t.k (watches (rule_at t x)) (amounts s) (stored t.k actions r (amounts s)))
    unfolding next
    waits-step x l =
        ap (λ (u : State). waits u x) next-is
        ∙ waits-after t s r x (le_trans l few)
        ∙ ap (λ (b : Bool). (waits s x && not (eqb x r)) || b) (woken x l)

  -- the machine makes the paper's step
  abbrev pub concrete : Concrete t.k actions runner
  concrete =
      record {
        fit = Fits t;
        cell = amounts;
        fault = λ s x. has s.faults x;
        n-is = refl;
        goes_before-is = λ s r ls lr. refl;
        step_fits = λ r s f h. step_fits t s r f;
        cell-step = cell-step;
        fault-step = fault-step;
        waits-step = waits-step;
      }
