-- Where i and j are both eligible and their pair meets the pair condition, the two ways part and come
-- together again. This is local confluence, the part that is special to rules with priorities.
use Rattle.std.specs.Prelude.{◌≡◌, refl, ◌⊎◌, Bool, true, ◌∷◌, ℕ, ◌<◌}
use Rattle.std.proofs.Math.Logic.{inl, inr}
use Rattle.std.proofs.Common.{⊎_elim}
use Rattle.std.proofs.Math.Bool.{So, Bool-discrete}
use Rattle.std.proofs.Math.Decide.{ℕ_discrete, dec_lt}
use Rattle.orders.specs.Runner.{Eligible, AtOrBefore}
use Rattle.orders.proofs.RunnerLaws.{then_at_or_before}
use Rattle.orders.specs.System.{System}
use Rattle.orders.specs.Side.{Side, NoneAhead}
use Rattle.orders.proofs.SideLaws.{branch, after-branch}
use Rattle.orders.specs.Pairs.{Closed, PairCondition}
use Rattle.orders.proofs.PairsLaws.{pair_condition_flip}
use Rattle.orders.specs.Join.{Under, In, Joined}

module _ (𝓢 : System) (i j : ℕ) (li : i < 𝓢.runner.n) (lj : j < 𝓢.runner.n) where
  open 𝓢 use {runner, may_trigger}
  open 𝓢.runner use {n, State, waits, goes_before}

  -- ── the two sets, cut down to the rules that are i or j or go before one of the two ──
  under_dec : (r : ℕ) → Dec (Under 𝓢 i j li lj r)
  under_dec r = go (at? i) (at? j)
    where
      at? : (m : ℕ) → Dec (AtOrBefore runner r m)
      at? m = at (ℕ_discrete r m) (Bool-discrete (goes_before r m) true)
        where
          at : Dec (r ≡ m) → Dec (So (goes_before r m)) → Dec (AtOrBefore runner r m)
          at (yes a) b = yes (inl a)
          at (no a) (yes b) = yes (inr b)
          at (no a) (no b) = no (⊎_elim a b)

      go : Dec (AtOrBefore runner r i) → Dec (AtOrBefore runner r j) → Dec (Under 𝓢 i j li lj r)
      go (yes a) b = yes (inl a)
      go (no a) (yes b) = yes (inr b)
      go (no a) (no b) = no (⊎_elim a b)

  before_under : (s r : ℕ) → s < n → r < n → So (goes_before s r) → Under 𝓢 i j li lj r
      → So (goes_before s i) ⊎ So (goes_before s j)
  before_under s r ls lr b =
      ⊎_elim (λ u. inl (then_at_or_before runner s r i ls lr li b u))
      (λ u. inr (then_at_or_before runner s r j ls lr lj b u))

  in_dec : (R : ℕ → Bool) (r : ℕ) → Dec (In 𝓢 i j li lj R r)
  in_dec R r = go (dec_lt r n) (Bool-discrete (R r) true) (under_dec r)
    where
      go : Dec (r < n) → Dec (So (R r)) → Dec (Under 𝓢 i j li lj r) → Dec (In 𝓢 i j li lj R r)
      go (yes a) (yes b) (yes c) = yes (a, b, c)
      go (yes a) (yes b) (no c) = no (λ x. c x.2)
      go (yes a) (no b) c = no (λ x. b x.1)
      go (no a) b c = no (λ x. a x.0)

  -- still closed
  in_closed : (R₁ R₂ : ℕ → Bool) → Closed 𝓢 R₁ R₂ → (a r b : ℕ) → r < n
      → In 𝓢 i j li lj R₁ a → So (may_trigger a r) → So (goes_before r b) → In 𝓢 i j li lj R₂ b
      → In 𝓢 i j li lj R₁ r
  in_closed R₁ R₂ c a r b l x t f y =
      let under = ⊎_elim (λ z. inl (inr z)) (λ z. inr (inr z)) (before_under r b l y.0 f y.2) in
      (l, c a r b x.0 l y.0 x.1 t f y.1, under)

  side : (x y : ℕ) (p : PairCondition 𝓢 x y) → Side 𝓢 (In 𝓢 i j li lj p.R₁) (In 𝓢 i j li lj p.R₂)
  side x y p =
      record {
        P_below = λ a x. x.0;
        Q_below = λ b y. y.0;
        Q_dec = in_dec p.R₂;
        closed = in_closed p.R₁ p.R₂ p.closed₁;
        commuting = λ a b x y. (p.commuting a b x.0 y.0 x.1 y.1).0;
        apart = λ a b x y. (p.commuting a b x.0 y.0 x.1 y.1).1;
      }

  -- nothing that waits goes before a rule of the sets, where i and j are both eligible
  none_under : (S : State) → Eligible runner i S → Eligible runner j S → (s m : ℕ) → s < n
      → So (waits S s) → So (goes_before s m) → m < n → Under 𝓢 i j li lj m → ⊥
  none_under S hi hj s m l w b lm u =
      ⊎_elim (hi.none_before s l w) (hj.none_before s l w) (before_under s m l lm b u)

  -- ── the two ways ──
  pub pair_condition⇒joined : PairCondition 𝓢 i j → (S : State) → Eligible runner i S → Eligible runner j S
      → Joined 𝓢 i j li lj S
  unfolding pair_condition_flip
  pair_condition⇒joined p S hi hj =
      let P = In 𝓢 i j li lj p.R₁ in
      let Q = In 𝓢 i j li lj p.R₂ in
      let D₁ = side i j p in
      let D₂ = side j i (pair_condition_flip 𝓢 i j p) in
      let quiet₁ : NoneAhead 𝓢 P Q D₁ S = λ s m l w b q. none_under S hi hj s m l w b q.0 q.2 in
      let quiet₂ : NoneAhead 𝓢 Q P D₂ S = λ s m l w b q. none_under S hi hj s m l w b q.0 q.2 in
      let b₁ = branch 𝓢 P Q D₁ i S (hi.below, p.has₁, inl (inl refl)) hi quiet₁ in
      let b₂ = branch 𝓢 Q P D₂ j S (hj.below, p.has₂, inr (inl refl)) hj quiet₂ in
      let a₁ = after-branch 𝓢 P Q D₁ i (j ∷ b₂.rules) S b₁ b₂.runs b₂.each in
      let a₂ = after-branch 𝓢 Q P D₂ j (i ∷ b₁.rules) S b₂ b₁.runs b₁.each in
      record {
        u = b₁.rules;
        v = b₂.rules;
        runs-u = b₁.runs;
        runs-v = b₂.runs;
        then_v = a₁.0;
        then_u = a₂.0;
        meet = a₁.1;
      }
