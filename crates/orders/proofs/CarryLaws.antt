-- Runs of one runner carried over to another, along a map of rules that may leave some out, and a relation
-- of states.
use Rattle.std.specs.Prelude.{◌≡◌, refl, List, [], ◌∷◌, ℕ}
use Rattle.std.proofs.Common.{ap}
use Rattle.std.proofs.Math.Option.{Option, none, some}
use Rattle.orders.specs.Runner.{Runner, Eligible, exec, Runs, Ended}
use Rattle.orders.specs.System.{System}
use Rattle.orders.specs.Confluence.{UniqueEnds}
use Rattle.orders.specs.Carry.{push, image, Carries}

pub image-some : (u : List ℕ) → image some u ≡ u
image-some [] = refl
image-some (r ∷ u) = ap (λ v. r ∷ v) (image-some u)

module _ (A B : Runner) (m : ℕ → Option ℕ) (Rel : A.State → B.State → Type 0) (C : Carries A B m Rel) where
  eligible-image : (r r' : ℕ) (S : A.State) (T : B.State) → Rel S T → Eligible A r S → m r ≡ some r'
      → Eligible B r' T
  eligible-image r r' S T q h e =
      let w = C.image-waits r r' S T q h e in
      record {
        below = w.0;
        waiting = w.1;
        none_before = λ s' l x b.
            let s = C.blocked r r' s' S T q h.below e l x b in
            h.none_before s.0 s.1 s.2 s.3;
      }

  pub carry : (u : List ℕ) (S : A.State) (T : B.State) → Rel S T → Runs A u S
      → Runs B (image m u) T × Rel (exec A u S) (exec B (image m u) T)
  carry [] S T q h = (tt, q)
  carry (r ∷ u) S T q h = go (m r) refl (λ T' q'. carry u (A.step r S) T' q' h.1)
    where
      Carried : List ℕ → B.State → Type 0
      Carried v T' = Runs B v T' × Rel (exec A u (A.step r S)) (exec B v T')

      go : (o : Option ℕ) → m r ≡ o → ((T' : B.State) → Rel (A.step r S) T' → Carried (image m u) T')
          → Carried (push o (image m u)) T
      go none e ih = ih T (C.hidden r S T q h.0 e)
      go (some r') e ih =
          let i = ih (B.step r' T) (C.shown r r' S T q h.0 e) in
          ((eligible-image r r' S T q h.0 e, i.0), i.1)

  pub carry-ended : (S : A.State) (T : B.State) → Rel S T → Ended A S → Ended B T
  carry-ended S T q f r' l w =
      let a = C.awake r' S T q l w in
      f a.0 a.1 a.2

-- where all ended runs over there end alike, the ends of two runs here are related to two ends that are the
-- same
module _ (A : Runner) (𝓢 : System) (m : ℕ → Option ℕ) (Rel : A.State → 𝓢.runner.State → Type 0)
    (C : Carries A 𝓢.runner m Rel) where
  pub carry-unique-ends : (S : A.State) (T : 𝓢.runner.State) → Rel S T → UniqueEnds 𝓢 T → (u v : List ℕ)
      → Runs A u S → Runs A v S → Ended A (exec A u S) → Ended A (exec A v S)
      → (T₁ T₂ : 𝓢.runner.State) × Rel (exec A u S) T₁ × Rel (exec A v S) T₂ × 𝓢.same T₁ T₂
  carry-unique-ends S T q one u v h k f g =
      let B = 𝓢.runner in
      let c = carry A B m Rel C u S T q h in
      let d = carry A B m Rel C v S T q k in (
        exec B (image m u) T,
        exec B (image m v) T,
        c.1,
        d.1,
        one (image m u) (image m v) c.0 d.0 (carry-ended A B m Rel C _ _ c.1 f)
            (carry-ended A B m Rel C _ _ d.1 g),
      )
