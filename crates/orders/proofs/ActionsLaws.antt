-- The paper's own body meets the facts asked in Bodies.
use Rattle.std.specs.Prelude.{◌≡◌, Bool, ◌&&◌, ◌||◌, ℕ, ℤ}
use Rattle.std.proofs.Math.Path.{refl, ap}
use Rattle.std.proofs.Common.{◌∙◌}
use Rattle.std.proofs.Math.Bool.{true, false, So, cond, and-eq-true_iff}
use Rattle.orders.specs.Bodies.{BodyFacts}
use Rattle.orders.specs.Actions.{Actions, stored, action_bodies}

module _ (k : ℕ) (A : Actions k) where
  open A use {writes, stores, value, stores-local}
  open A use {value-local, faults-local}

  pub action_facts : BodyFacts k (action_bodies k A)
  unfolding stored
  action_facts =
      record {
        unwritten = λ r c x l lx h.
            cond-off _ _ (stores r c && writes r x)
            (λ i. h ((and-eq-true_iff (stores r c) (writes r x)).0 i).1);
        local = λ r c d x l lx h e.
            ap (λ b. cond (b && writes r x) (value r c x) (c x)) (stores-local r c d l h)
            ∙ cond_same _ _ _ _ (stores r d && writes r x) e
            (λ i. value-local r c d x l lx h ((and-eq-true_iff (stores r d) (writes r x)).0 i).1);
        mark-local = λ r c d m l h. ap (λ b. m || b) (faults-local r c d l h);
      }
    where
      cond-off : (v w : ℤ) (b : Bool) → (So b → ⊥) → cond b v w ≡ w
      cond-off v w true h = absurd (h refl)
      cond-off v w false h = refl

      cond_same : (v v' w w' : ℤ) (b : Bool) → w ≡ w' → (So b → v ≡ v') → cond b v w ≡ cond b v' w'
      cond_same v v' w w' true e h = h refl
      cond_same v v' w w' false e h = e
