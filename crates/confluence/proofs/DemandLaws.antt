-- Demand 3: for a cleared book, any amounts in range, any waiting rules and no posting meanwhile, every order that the priorities permit
-- goes on until nothing waits, within the step bound of that set, and all end with the same amounts and fault marks. Permitted orders are
-- the runs of `orders`, whose theorem (terminating, locally confluent by the pairs, so confluent) is carried over to the machine's states.
use mathlib.Core.Path.{◌≡◌, refl, sym, ap, ap₂, ◌∙◌, subst}
use mathlib.Core.Logic.{⊎_elim}
use mathlib.Core.Bool.{Bool, true, false, So, cond, false≢true}
use mathlib.Core.List.{List, [], ◌∷◌, ◌++◌}
use Prim.Native.Nat.{ℕ, ◌≤◌, ◌<◌}
use native.Mathlib.Nat.{le_trans, le_of_eq, lt_irrefl}
use native.Mathlib.Decide.{ℕ_discrete}
use lib.IntN.{ℤ, pos}
use lib.ListN.{length}
use lib.Seq.{ext_get_or}
use Rattle.mask.proofs.SearchLaws.{lt-or_ge}
use Rattle.mask.specs.Mask.{has, beyond}
use Rattle.mask.specs.MaskInner.{lowest}
use Rattle.mask.proofs.BitsLaws.{has-zero}
use Rattle.mask.proofs.MaskLaws.{ext_iff, lowest-has}
use Rattle.table.specs.Table.{Table}
use Rattle.refusal.specs.Answer.{Answer}
use Rattle.table.specs.Check.{check_of, Sound}
use Rattle.table.proofs.SoundLaws.{parts, sound-by}
use Rattle.analysis_weights.specs.Weight.{weight_of}
use Rattle.analysis_pairs.specs.RuleMasks.{triggers}
use Rattle.analysis_masks.specs.Report.{Report}
use Rattle.analysis_masks.specs.Cleared.{Faulty, Cleared}
use Rattle.analysis_masks.specs.Report.{Reported}
use Rattle.analysis.specs.TableMasks.{masks_of}
use Rattle.analysis.specs.Says.{ReportSays}
use Rattle.rule_sums.specs.Sums.{at}
use Rattle.machine_spec.specs.declared.State.{State}
use Rattle.machine_spec.specs.Step.{Moved}
use Rattle.machine_spec.specs.State.{Fits, waits}
use Rattle.machine_spec.specs.Step.{step_of}
use Rattle.mask.proofs.MaskBelowLaws.{below-beyond}
use Rattle.machine_spec.proofs.HeldBackLaws.{not-held}
use Rattle.machine_spec.proofs.StateLaws.{fits-waiting, fits-faults, fits-rest}
use Rattle.machine_spec.proofs.StepLaws.{Stepping, step-done, step_fits}
use Rattle.orders.specs.Finite.{sum}
use Rattle.orders.specs.Runner.{Eligible, exec, Runs, Ended}
use Rattle.orders.proofs.RunnerLaws as orders
use Rattle.orders.specs.System.{step_bound}
use Rattle.orders.proofs.ViewLaws.{viewed-short}
use Rattle.orders.proofs.WaitingBitLaws.{waiting_bit}
use Rattle.orders.proofs.ConcreteLaws.{machine, view, viewed, cleared⇒promised}
use Rattle.orders.specs.Concrete.{Promised}
use Rattle.confluence.specs.Demand.{after, Permitted, Still, Precedes32, bound_of, EveryOrder, OneEnd}
use Rattle.confluence.proofs.MachineLaws.{runner, actions, concrete, steps-done}
use Rattle.confluence.proofs.AnalysedLaws.{weight, analysed, pairs_pass, total-sum, sum_past}

-- ---- two states that fit are told apart by their cells below k and their marks below n

fits-cells : (t : Table) → Sound t → (s u : State) → Fits t s → Fits t u
    → ((x : ℕ) → x < t.k → at s.cells x ≡ at u.cells x) → s.cells ≡ u.cells
fits-cells t sd s u f g h =
    ext_get_or (pos 0) s.cells u.cells (f.long ∙ sym g.long)
    (λ x l.
    let m : x < 32 = subst (λ (k : ℕ). x < k) f.long l in
    ⊎_elim (h x) (λ past. fits-rest t s f x m past ∙ sym (fits-rest t u g x m past)) (lt-or_ge x t.k))

fits-marks : (t : Table) (s u : State) → Fits t s → Fits t u
    → ((x : ℕ) → x < t.n → has s.faults x ≡ has u.faults x) → s.faults ≡ u.faults
fits-marks t s u f g h =
    ext_iff s.faults u.faults f.faults g.faults
    (λ x e. sym (h x ((fits-faults t s f).lt x e)) ∙ e)
    (λ x e. h x ((fits-faults t u g).lt x e) ∙ e)

-- so they are the same where the same rules wait besides
abbrev made : List ℤ → ℕ → ℕ → State
made cells waiting faults = record { cells = cells; waiting = waiting; faults = faults }

fits-same : (t : Table) → Sound t → (s u : State) → Fits t s → Fits t u
    → ((x : ℕ) → x < t.k → at s.cells x ≡ at u.cells x) → ((x : ℕ) → x < t.n → has s.faults x ≡ has u.faults x)
    → s.waiting ≡ u.waiting → s ≡ u
fits-same t sd s u f g cells marks waiting =
    ap (λ (x : List ℤ). made x s.waiting s.faults) (fits-cells t sd s u f g cells)
    ∙ ap₂ (made u.cells) waiting (fits-marks t s u f g marks)

-- a waiting set that fits is a set of the table's rules
fits-set : (t : Table) (s : State) → Fits t s → beyond s.waiting t.n ≡ false
fits-set t s f = below-beyond t.n s.waiting (fits-waiting t s f)

module _ (t : Table) (sd : Sound t) where
  -- ---- permitted orders are the runs of `orders`

  pub exec-after : (rs : List ℕ) (s : State) → exec (runner t sd) rs s ≡ after t s rs
  exec-after [] s = refl
  exec-after (r ∷ rs) s = exec-after rs (step_of t s r).state

  pub after-fits : (rs : List ℕ) (s : State) → Fits t s → Fits t (after t s rs)
  after-fits [] s f = f
  after-fits (r ∷ rs) s f = after-fits rs (step_of t s r).state (step_fits t s r f)

  eligible : (r : ℕ) (s : State) → (step_of t s r).number ≡ 0 → Eligible (runner t sd) r s
  eligible r s e =
      let h : Stepping t s r = (step-done t s r e).1 in
      record {
        below = h.below;
        waiting = h.waiting;
        none_before = λ x l w b. not-held t s r h.free x (le_trans l (parts t sd).sizes.rules) w b;
      }

  pub permitted-runs : (rs : List ℕ) (s : State) → Permitted t s rs → Runs (runner t sd) rs s
  permitted-runs [] s p = tt
  permitted-runs (r ∷ rs) s p = (eligible r s p.0, permitted-runs rs (step_of t s r).state p.1)

  pub runs-permitted : (rs : List ℕ) (s : State) → Fits t s → Runs (runner t sd) rs s → Permitted t s rs
  runs-permitted [] s f h = tt
  runs-permitted (r ∷ rs) s f h =
      (ap (λ (m : Moved). m.number) (steps-done t sd r s f h.0), runs-permitted rs (step_of t s r).state (step_fits t s r f) h.1)

  still-ended : (s : State) → Still s → Ended (runner t sd) s
  still-ended s e r l w = false≢true (sym (ap (λ (m : ℕ). has m r) e ∙ has-zero r) ∙ w)

  -- something waits: it is a rule of the table's
  waiting-rule : (s : State) → Fits t s → (Still s → ⊥) → (r : ℕ) × (r < t.n) × So (waits s r)
  waiting-rule s f ne =
      let w = lowest-has s.waiting f.waiting ne in
      (lowest s.waiting, (fits-waiting t s f).lt (lowest s.waiting) w.1, w.1)

  -- ---- the sum of the weights of what waits is the step bound
  module _ (masks : Precedes32 t) where
    sum_is : (s : State) → Fits t s → sum (λ x. cond (waits s x) (weight t sd masks x) 0) t.n ≡ bound_of t s.waiting
    unfolding weight
    sum_is s f =
        let w : ℕ → ℕ = weight_of (triggers (masks_of t)) t.n in
        sym
        (total-sum 32 s.waiting w
        ∙ sum_past t.n 32 (λ x. cond (waits s x) (w x) 0) (parts t sd).sizes.rules
        (λ x l. ap (λ (b : Bool). cond b (w x) 0) (past x l (waits s x) refl)))
      where
        past : (x : ℕ) → t.n ≤ x → (b : Bool) → waits s x ≡ b → waits s x ≡ false
        past x l true q = absurd (lt_irrefl x (le_trans ((fits-waiting t s f).lt x q) l))
        past x l false q = q

    -- ---- a book that ends
    module _ (ends : (r : ℕ) → Faulty (masks_of t) r → ⊥) (s : State) (f : Fits t s) where
      short : (rs : List ℕ) → Permitted t s rs → length rs ≤ bound_of t s.waiting
      unfolding waiting_bit view step_bound
      short rs p =
          le_trans
          (viewed-short (runner t sd) (machine t.k (actions t sd) (runner t sd) (concrete t sd) (analysed t sd masks ends)) (Fits t)
          (view t.k (actions t sd) (runner t sd) (concrete t sd) (analysed t sd masks ends))
          (viewed t.k (actions t sd) (runner t sd) (concrete t sd) (analysed t sd masks ends)) s f rs (permitted-runs rs s p))
          (le_of_eq (sum_is s f))

      pub every_order : EveryOrder t s
      every_order =
          record {
            short = short;
            bound = λ b says.
                (says.done (ap (λ (a : Answer). a.number) sd.checked)).done (fits-set t s f) ends;
            goes_on = λ rs p ne.
                let w = waiting-rule (after t s rs) (after-fits rs s f) ne in
                let g =
                orders.goes_on (runner t sd) rs s (permitted-runs rs s p) w.0 w.1
                (ap (λ (u : State). waits u w.0) (exec-after rs s) ∙ w.2) in
                (g.0, runs-permitted (rs ++ (g.0 ∷ [])) s f g.1);
          }

    -- ---- a cleared book
    module _ (c : Cleared (masks_of t)) (s : State) (f : Fits t s) where
      promised : Promised t.k (actions t sd) (runner t sd) (concrete t sd) (analysed t sd masks c.ends) s
      promised =
          cleared⇒promised t.k (actions t sd) (runner t sd) (concrete t sd) (analysed t sd masks c.ends) (pairs_pass t sd masks c) s f

      pub one_end : OneEnd t s
      one_end rs us a b x y =
          let q = permitted-runs us s y.permitted in
          let p = permitted-runs rs s x.permitted in
          let ea = exec-after rs s ∙ x.is in
          let eb = exec-after us s ∙ y.is in
          let na = still-ended (exec (runner t sd) rs s) (ap (λ (u : State). u.waiting) ea ∙ x.still) in
          let nb = still-ended (exec (runner t sd) us s) (ap (λ (u : State). u.waiting) eb ∙ y.still) in
          fits-same t sd a b (subst (Fits t) x.is (after-fits rs s f)) (subst (Fits t) y.is (after-fits us s f))
          (λ i l.
          sym (ap (λ (u : State). at u.cells i) ea) ∙ promised.same-amounts rs us p q na nb i l
          ∙ ap (λ (u : State). at u.cells i) eb)
          (λ i l.
          sym (ap (λ (u : State). has u.faults i) ea) ∙ promised.same-faults rs us p q na nb i l
          ∙ ap (λ (u : State). has u.faults i) eb)
          (x.still ∙ sym y.still)

-- ---- in terms of the calls: the report is done and says cleared

-- a report that is done is of a sound table
pub sound_of : (t : Table) (r : Report) → ReportSays t r → r.number ≡ 0 → Sound t × Reported (masks_of t) r
sound_of t r says e = go (ℕ_discrete (check_of t).number 0)
  where
    go : Dec ((check_of t).number ≡ 0) → Sound t × Reported (masks_of t) r
    go (yes z) = (sound-by t z, says.done z)
    go (no ne) = absurd (ne (sym (ap (λ (x : Report). x.number) (says.refused ne)) ∙ e))

-- and one that says cleared, of a cleared one
pub cleared_of : (t : Table) (r : Report) → ReportSays t r → r.number ≡ 0 → r.cleared ≡ true → Sound t × Cleared (masks_of t)
cleared_of t r says e c = let p = sound_of t r says e in (p.0, p.1.cleared.0 c)

-- demand 3
pub demand_3 : (t : Table) (s : State) (r : Report) → Precedes32 t → ReportSays t r → r.number ≡ 0 → r.cleared ≡ true → Fits t s
    → EveryOrder t s × OneEnd t s
demand_3 t s r masks says e c f =
    let p = cleared_of t r says e c in
    (every_order t p.0 masks p.1.ends s f, one_end t p.0 masks p.1 s f)

-- a book that only ends, with no rule at fault: its orders are short and go on
pub ends_3 : (t : Table) (s : State) (r : Report) → Precedes32 t → ReportSays t r → r.number ≡ 0 → r.faulty ≡ 0 → Fits t s
    → EveryOrder t s
ends_3 t s r masks says e z f =
    let p = sound_of t r says e in
    every_order t p.0 masks
    (λ x h. false≢true (sym (ap (λ (m : ℕ). has m x) z ∙ has-zero x) ∙ (p.1.faulty x).1 h)) s f
