-- A concrete machine viewed as an abstract system: what is proved of the system holds of the machine, which
-- needs no law of its own.
use Rattle.std.specs.Prelude.{◌≡◌, List, [], ◌∷◌, ◌++◌, ℕ, ◌≤◌, ◌<◌, length}
use Rattle.std.proofs.Common.{sym, ◌∙◌, ap, subst, arith}
use Rattle.std.proofs.Math.Bool.{So}
use Rattle.std.proofs.Math.Option.{some}
use Rattle.orders.specs.Runner.{Runner, Eligible, exec, Runs, Ended}
use Rattle.orders.proofs.RunnerLaws.{goes_on}
use Rattle.orders.specs.System.{System, step_bound}
use Rattle.orders.proofs.SystemLaws.{bounded}
use Rattle.orders.specs.Confluence.{UniqueEnds}
use Rattle.orders.specs.Carry.{Carries}
use Rattle.orders.proofs.CarryLaws.{image-some, carry, carry-unique-ends}
use Rattle.orders.specs.View.{Viewed, Shows}

module _ (A : Runner) (𝓢 : System) (fit : A.State → Type 0) (view : A.State → 𝓢.runner.State)
    (𝓥 : Viewed A 𝓢 fit view) where
  open 𝓢 use {runner, same, same-is, same-waits, same_step}

  up : (r : ℕ) → r < A.n → r < runner.n
  up r l = subst (λ k. r < k) 𝓥.n-is l

  down : (r : ℕ) → r < runner.n → r < A.n
  down r l = subst (λ k. r < k) (sym 𝓥.n-is) l

  seen : (S : A.State) (T : runner.State) (r : ℕ) → Shows A 𝓢 fit view 𝓥 S T → r < A.n → So (A.waits S r)
      → So (runner.waits T r)
  seen S T r q l w = same-waits (view S) T q.1 r (up r l) (sym (𝓥.waits-is S r q.0 l) ∙ w)

  back : (S : A.State) (T : runner.State) (r : ℕ) → Shows A 𝓢 fit view 𝓥 S T → r < A.n → So (runner.waits T r)
      → So (A.waits S r)
  back S T r q l w = 𝓥.waits-is S r q.0 l ∙ same-waits T (view S) (same-is.symm _ _ q.1) r (up r l) w

  step-shown : (r : ℕ) (S : A.State) (T : runner.State) → Shows A 𝓢 fit view 𝓥 S T → Eligible A r S
      → Shows A 𝓢 fit view 𝓥 (A.step r S) (runner.step r T)
  step-shown r S T q h =
      let w : So (runner.waits (view S) r) = sym (𝓥.waits-is S r q.0 h.below) ∙ h.waiting in (
        𝓥.step_fits r S q.0 h,
        same-is.trans _ _ _ (𝓥.step_is r S q.0 h) (same_step (view S) T q.1 r (up r h.below) w),
      )

  carries : Carries A runner some (Shows A 𝓢 fit view 𝓥)
  carries =
      record {
        hidden = λ r S T q h e.
            let z : ◌≡◌ {A = ℕ} 0 1 = cc in
            absurd (omega arith);
        shown = λ r r' S T q h e.
            let i : r ≡ r' = cc in
            subst (λ x. Shows A 𝓢 fit view 𝓥 (A.step r S) (runner.step x T)) i (step-shown r S T q h);
        image-waits = λ r r' S T q h e.
            let i : r ≡ r' = cc in
            subst (λ x. (x < runner.n) × So (runner.waits T x)) i
            (up r h.below, seen S T r q h.below h.waiting);
        blocked = λ r r' s S T q l e m w b.
            let i : r ≡ r' = cc in (
              s,
              down s m,
              back S T s q (down s m) w,
              𝓥.goes_before-is s r (down s m) l ∙ ap (runner.goes_before s) i ∙ b,
            );
        awake = λ r S T q m w. (r, down r m, back S T r q (down r m) w);
      }

  start : (S : A.State) → fit S → Shows A 𝓢 fit view 𝓥 S (view S)
  start S f = (f, same-is.refl (view S))

  -- (a)
  pub viewed-short : (S : A.State) → fit S → (u : List ℕ) → Runs A u S → length u ≤ step_bound 𝓢 (view S)
  viewed-short S f u h =
      let c = carry A runner some (Shows A 𝓢 fit view 𝓥) carries u S (view S) (start S f) h in
      bounded 𝓢 u (view S) (subst (λ v. Runs runner v (view S)) (image-some u) c.0)

  -- (b)
  pub viewed-on : (S : A.State) (u : List ℕ) → Runs A u S → (r : ℕ) → r < A.n → So (A.waits (exec A u S) r)
      → (s : ℕ) × Runs A (u ++ (s ∷ [])) S
  viewed-on S u h = goes_on A u S h

  -- (c)
  pub viewed-unique-ends : (S : A.State) → fit S → UniqueEnds 𝓢 (view S) → (u v : List ℕ) → Runs A u S → Runs A v S
      → Ended A (exec A u S) → Ended A (exec A v S) → same (view (exec A u S)) (view (exec A v S))
  viewed-unique-ends S f one u v h k p q =
      let t = carry-unique-ends A 𝓢 some (Shows A 𝓢 fit view 𝓥) carries S (view S) (start S f) one u v h k p q in
      same-is.trans _ _ _ t.2.1 (same-is.trans _ _ _ t.4 (same-is.symm _ _ t.3.1))
