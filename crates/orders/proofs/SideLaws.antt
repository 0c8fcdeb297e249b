-- One side of a pair: a set P of rules that run, against a set Q with all of which they commute. Rules of P
-- run until nothing that waits goes before a rule of Q. After them a run of rules of Q is still one, and it
-- does not matter which of the two runs comes first.
use Rattle.std.specs.Prelude.{◌⊎◌, true, List, [], ◌∷◌}
use Rattle.std.proofs.Common.{inl, inr, ⊎_elim, arith}
use Rattle.std.proofs.Math.Logic.{Ne-symm}
use Rattle.std.proofs.Math.Logic.Dec
use Rattle.std.proofs.Math.Bool.{So, Bool-discrete}
use Prim.Native.Nat.{ℕ, zero, suc, ◌<◌}
use Rattle.orders.proofs.FiniteLaws.{search_below}
use Rattle.orders.specs.Runner.{Eligible, exec, Runs}
use Rattle.orders.proofs.RunnerLaws.{at_or_before_then, eligible-at-or-before}
use Rattle.orders.specs.System.{System, EachWaits, step_bound}
use Rattle.orders.proofs.SystemLaws.{runs⇒each_waits, each_waits_same, runs_same, exec-same, step_bound_falls}
use Rattle.orders.specs.Side.{Each, Side, AheadInP, AheadNotInP, NoneAhead, UntilNoneAhead, WaitsAhead, Branch}

module _ (𝓢 : System) (P Q : ℕ → Type 0) (𝓓 : Side 𝓢 P Q) where
  open 𝓢 use {runner, may_trigger, same, same-is, same-waits}
  open 𝓢 use {commute_symmetric, commute-quiet, keeps, wakes, swaps}
  open 𝓢.runner use {n, State, waits, step, goes_before}
  open 𝓓 use {P_below, Q_below, Q_dec, closed, commuting, apart}

  -- no rule of P may trigger one of Q, nor the other way round
  quiet_PQ : (a b : ℕ) → P a → Q b → So (may_trigger a b) → ⊥
  quiet_PQ a b p q = commute-quiet a b (P_below a p) (Q_below b q) (commuting a b p q)

  quiet_QP : (a b : ℕ) → P a → Q b → So (may_trigger b a) → ⊥
  quiet_QP a b p q =
      commute-quiet b a (Q_below b q) (P_below a p)
      (commute_symmetric a b (P_below a p) (Q_below b q) (commuting a b p q))

  ahead_in_p_step : (a : ℕ) (T : State) → P a → So (waits T a) → AheadInP 𝓢 P Q 𝓓 T → AheadInP 𝓢 P Q 𝓓 (step a T)
  ahead_in_p_step a T p w o s m l x b q =
      ⊎_elim (λ c. o s m l c.1 b q) (λ t. closed a s m l p t b q) (wakes a s T (P_below a p) l w x)

  ahead_not_in_p_step : (b : ℕ) (T : State) → Q b → So (waits T b) → AheadNotInP 𝓢 P Q 𝓓 T
      → AheadNotInP 𝓢 P Q 𝓓 (step b T)
  ahead_not_in_p_step b T q w o s m l x f g p =
      ⊎_elim (λ c. o s m l c.1 f g p) (quiet_QP s b p q) (wakes b s T (Q_below b q) l w x)

  ahead_not_in_p_same : {S T : State} → same S T → AheadNotInP 𝓢 P Q 𝓓 S → AheadNotInP 𝓢 P Q 𝓓 T
  ahead_not_in_p_same {S} {T} e o s m l w = o s m l (same-waits T S (same-is.symm S T e) s l w)

  -- ── rules of P run until nothing that waits goes before a rule of Q ──
  waits_ahead_dec : (T : State) (s : ℕ) → Dec (WaitsAhead 𝓢 P Q 𝓓 T s)
  unfolding WaitsAhead
  waits_ahead_dec T s =
      Dec.and (Bool-discrete (waits T s) true)
      (search_below (λ m. So (goes_before s m) × Q m)
      (λ m. Dec.and (Bool-discrete (goes_before s m) true) (Q_dec m)) n)

  run-below : (k : ℕ) (T : State) → step_bound 𝓢 T < k → AheadInP 𝓢 P Q 𝓓 T → UntilNoneAhead 𝓢 P Q 𝓓 T
  unfolding WaitsAhead
  run-below zero T f o = absurd (omega arith)
  run-below (suc k) T f o = go (run-below k) (search_below (WaitsAhead 𝓢 P Q 𝓓 T) (waits_ahead_dec T) n)
    where
      go : ((U : State) → step_bound 𝓢 U < k → AheadInP 𝓢 P Q 𝓓 U → UntilNoneAhead 𝓢 P Q 𝓓 U)
          → Dec ((s : ℕ) × (s < n) × WaitsAhead 𝓢 P Q 𝓓 T s)
          → UntilNoneAhead 𝓢 P Q 𝓓 T
      go ih (yes d) =
          let s = d.0 in
          let m = d.2.1.0 in
          let b = d.2.1.2.0 in
          let q = d.2.1.2.1 in
          let t = eligible-at-or-before runner s T d.1 d.2.0 in
          let a = t.rule in
          let e = t.eligible in
          let ahead = at_or_before_then runner a s m e.below d.1 d.2.1.1 t.ahead b in
          let p : P a = o a m e.below e.waiting ahead q in
          let falls = step_bound_falls 𝓢 a T e.below e.waiting in
          let r = ih (step a T) (omega arith) (ahead_in_p_step a T p e.waiting o) in
          record { rules = a ∷ r.rules; runs = (e, r.runs); each = (p, r.each); quiet = r.quiet }
      go ih (no d) =
          record {
            rules = [];
            runs = tt;
            each = tt;
            quiet = λ s m l w b q. d (s, l, (w, (m, Q_below m q, (b, q))));
          }

  run_until_none-ahead : (T : State) → AheadInP 𝓢 P Q 𝓓 T → UntilNoneAhead 𝓢 P Q 𝓓 T
  run_until_none-ahead T o = run-below (suc (step_bound 𝓢 T)) T (omega arith) o

  -- ── rules of Q after rules of P ──
  -- a rule of Q still waits
  kept : (u : List ℕ) (S : State) (b : ℕ) → EachWaits 𝓢 u S → Each P u → Q b → So (waits S b)
      → So (waits (exec runner u S) b)
  kept [] S b g h q w = w
  kept (a ∷ u) S b g h q w =
      kept u (step a S) b g.2 h.1 q
      (keeps a b S g.0 (Q_below b q) g.1 (apart a b h.0 q) (quiet_PQ a b h.0 q) w)

  -- what waits waited before, or one of P may trigger it
  woken : (u : List ℕ) (S : State) (s : ℕ) → s < n → EachWaits 𝓢 u S → Each P u
      → So (waits (exec runner u S) s)
      → So (waits S s) ⊎ ((a : ℕ) × P a × So (may_trigger a s))
  woken [] S s l g h w = inl w
  woken (a ∷ u) S s l g h w =
      ⊎_elim (λ x. ⊎_elim (λ c. inl c.1) (λ t. inr (a, h.0, t)) (wakes a s S g.0 l g.1 x)) inr
      (woken u (step a S) s l g.2 h.1 w)

  -- a rule of Q can be stepped first
  past : (b : ℕ) (u : List ℕ) (S : State) → Q b → So (waits S b) → EachWaits 𝓢 u S → Each P u
      → same (step b (exec runner u S)) (exec runner u (step b S)) × EachWaits 𝓢 u (step b S)
  past b [] S q w g h = (same-is.refl (step b S), tt)
  past b (a ∷ u) S q w g h =
      let p = h.0 in
      let ne = apart a b p q in
      let l = Q_below b q in
      let w' : So (waits (step a S) b) = keeps a b S g.0 l g.1 ne (quiet_PQ a b p q) w in
      let x : So (waits (step b S) a) = keeps b a S l g.0 w (Ne-symm ne) (quiet_QP a b p q) g.1 in
      let ih = past b u (step a S) q w' g.2 h.1 in
      let e = same-is.symm _ _ (swaps a b S g.0 l ne (commuting a b p q) g.1 w) in
      (same-is.trans _ _ _ ih.0 (exec-same 𝓢 u e ih.1), (g.0, x, each_waits_same 𝓢 u e ih.1))

  -- a rule of Q that was eligible still is, where nothing of P that waits goes before it
  still-eligible : (u : List ℕ) (S : State) (b : ℕ) → EachWaits 𝓢 u S → Each P u → Q b → Eligible runner b S
      → AheadNotInP 𝓢 P Q 𝓓 (exec runner u S) → Eligible runner b (exec runner u S)
  still-eligible u S b g h q el o =
      record {
        below = el.below;
        waiting = kept u S b g h q el.waiting;
        none_before = λ s l x y.
            ⊎_elim (λ z. el.none_before s l z y) (λ t. o s b l x y q (closed t.0 s b l t.1 t.2 y q))
            (woken u S s l g h x);
      }

  -- a run of rules of Q is still one, and ends as if it had come first
  after : (u v : List ℕ) (S : State) → EachWaits 𝓢 u S → Each P u → AheadNotInP 𝓢 P Q 𝓓 (exec runner u S)
      → Runs runner v S → Each Q v
      → Runs runner v (exec runner u S)
      × same (exec runner v (exec runner u S)) (exec runner u (exec runner v S))
  after u [] S g h o r f = (tt, same-is.refl (exec runner u S))
  after u (b ∷ v) S g h o r f =
      let T = exec runner u S in
      let q = f.0 in
      let p = past b u S q r.0.waiting g h in
      let el = still-eligible u S b g h q r.0 o in
      let o' = ahead_not_in_p_same p.0 (ahead_not_in_p_step b T q el.waiting o) in
      let ih = after u v (step b S) p.1 h o' r.1 f.1 in
      let rn = runs_same 𝓢 v (same-is.symm _ _ p.0) ih.0 in
      ((el, rn), same-is.trans _ _ _ (exec-same 𝓢 v p.0 (runs⇒each_waits 𝓢 v (step b T) rn)) ih.1)

  -- ── together: a branch from x, and a branch of the other side after it ──
  pub branch : (x : ℕ) (S : State) → P x → Eligible runner x S → NoneAhead 𝓢 P Q 𝓓 S → Branch 𝓢 P Q 𝓓 x S
  branch x S p h q =
      let own = ahead_in_p_step x S p h.waiting (λ s m l w b y. absurd (q s m l w b y)) in
      let d = run_until_none-ahead (step x S) own in
      record { rules = d.rules; runs = (h, d.runs); each = (p, d.each); quiet = d.quiet }

  pub after-branch : (x : ℕ) (v : List ℕ) (S : State) (b : Branch 𝓢 P Q 𝓓 x S) → Runs runner v S → Each Q v
      → Runs runner v (exec runner (x ∷ b.rules) S)
      × same (exec runner v (exec runner (x ∷ b.rules) S)) (exec runner (x ∷ b.rules) (exec runner v S))
  after-branch x v S b =
      after (x ∷ b.rules) v S (runs⇒each_waits 𝓢 (x ∷ b.rules) S b.runs) b.each
      (λ s m l w y q p. b.quiet s m l w y q)
