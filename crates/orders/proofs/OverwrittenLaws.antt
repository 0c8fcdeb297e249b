-- A function changed at one number: there it is the new value, elsewhere it is as before.
use Rattle.std.specs.Prelude.{◌≡◌, refl, ◌≢◌, Bool, true, false, ◌&&◌, ◌||◌, not, ℕ, eqb}
use Rattle.std.proofs.Common.{sym, ◌∙◌, eq-eqb, ne_eqb, eqb-true}
use Rattle.std.proofs.Math.Path.{ap}
use Rattle.std.proofs.Math.Bool.{cond, and-true, and-false, or-false}
use Rattle.std.proofs.Math.Decide.{ℕ_discrete}
use Rattle.orders.specs.Overwritten.{put}

module _ {A : Type 0} (f : ℕ → A) where
  pub put_same : (r : ℕ) (a : A) (t : ℕ) → t ≡ r → put f r a t ≡ a
  unfolding put
  put_same r a t e = ap (λ b. cond b a (f t)) (eq-eqb t r e)

  pub put_other : (r : ℕ) (a : A) (t : ℕ) → t ≢ r → put f r a t ≡ f t
  unfolding put
  put_other r a t e = ap (λ b. cond b a (f t)) (ne_eqb t r e)

pub put-swap : {A : Type 0} (f : ℕ → A) (r s : ℕ) (a b : A) (t : ℕ) → r ≢ s
    → put (put f s b) r a t ≡ put (put f r a) s b t
put-swap f r s a b t ne = go (ℕ_discrete t r) (ℕ_discrete t s)
  where
    go : Dec (t ≡ r) → Dec (t ≡ s) → put (put f s b) r a t ≡ put (put f r a) s b t
    go (yes e) (yes g) = absurd (ne (sym e ∙ g))
    go (yes e) (no g) =
        put_same (put f s b) r a t e ∙ sym (put_other (put f r a) s b t g ∙ put_same f r a t e)
    go (no e) (yes g) =
        put_other (put f s b) r a t e ∙ put_same f s b t g ∙ sym (put_same (put f r a) s b t g)
    go (no e) (no g) =
        put_other (put f s b) r a t e ∙ put_other f s b t g
        ∙ sym (put_other (put f r a) s b t g ∙ put_other f r a t e)

-- ── a set with one number taken out, or perhaps put in ──
pub put-out : (f : ℕ → Bool) (r t : ℕ) → put f r false t ≡ (f t && not (eqb t r))
unfolding put
put-out f r t = go (eqb t r)
  where
    go : (b : Bool) → cond b false (f t) ≡ (f t && not b)
    go true = sym (and-false (f t))
    go false = sym (and-true (f t))

pub put_in : (f : ℕ → Bool) (r : ℕ) (b : Bool) (t : ℕ) → put f r (f r || b) t ≡ (f t || (eqb t r && b))
unfolding put
put_in f r b t = go (eqb t r) (eqb-true t r)
  where
    go : (e : Bool) → (e ≡ true → t ≡ r) → cond e (f r || b) (f t) ≡ (f t || (e && b))
    go true h = ap (λ x. f x || b) (sym (h refl))
    go false h = sym (or-false (f t))
