-- One runner carried over to another, along a map of rules that may leave some out, and a relation of states.
use Rattle.std.specs.Prelude.{◌≡◌, List, [], ◌∷◌, ℕ, ◌<◌}
use Rattle.std.proofs.Math.Bool.{So}
use Rattle.std.proofs.Math.Option.{Option, none, some}
use Rattle.orders.specs.Runner.{Runner, Eligible}

abbrev pub push : Option ℕ → List ℕ → List ℕ
push none u = u
push (some r) u = r ∷ u

-- the rules that are mapped, in order
abbrev pub image : (ℕ → Option ℕ) → List ℕ → List ℕ
image m [] = []
image m (r ∷ u) = push (m r) (image m u)

pub record Carries (A B : Runner) (m : ℕ → Option ℕ) (Rel : A.State → B.State → Type 0) : Type 0 where
  -- the step of a rule that is left out is not seen
  pub hidden : (r : ℕ) (S : A.State) (T : B.State) → Rel S T → Eligible A r S → m r ≡ none
      → Rel (A.step r S) T
  -- the step of a mapped rule is its image's
  pub shown : (r r' : ℕ) (S : A.State) (T : B.State) → Rel S T → Eligible A r S → m r ≡ some r'
      → Rel (A.step r S) (B.step r' T)
  -- the image of an eligible rule is a rule that waits
  pub image-waits : (r r' : ℕ) (S : A.State) (T : B.State) → Rel S T → Eligible A r S → m r ≡ some r'
      → (r' < B.n) × So (B.waits T r')
  -- what waits there and goes before the image answers to something that waits here and goes before the rule
  pub blocked : (r r' s' : ℕ) (S : A.State) (T : B.State) → Rel S T → r < A.n → m r ≡ some r'
      → s' < B.n → So (B.waits T s') → So (B.goes_before s' r')
      → (s : ℕ) × (s < A.n) × So (A.waits S s) × So (A.goes_before s r)
  -- what waits there answers to something that waits here
  pub awake : (r' : ℕ) (S : A.State) (T : B.State) → Rel S T → r' < B.n → So (B.waits T r')
      → (r : ℕ) × (r < A.n) × So (A.waits S r)
