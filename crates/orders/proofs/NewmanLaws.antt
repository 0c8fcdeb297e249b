-- Newman's lemma, for any relation and up to an equivalence (confluent modulo it): what terminates and is locally
-- confluent is confluent, and what is confluent has unique normal forms. Knows no rules.
use Rattle.std.specs.Prelude.{◌≡◌, ◌⊎◌, ℕ, zero, suc, ◌<◌}
use Rattle.std.proofs.Common.{subst, inl, inr, arith}
use Rattle.std.proofs.Math.Logic.{Equivalence}
use mathlib.Mathlib.Logic.Relation.ReflTransGenᴰ.{refl as none}
use mathlib.Mathlib.Logic.Relation.ReflTransGenᴰ.{tail as one_more}
use mathlib.Mathlib.Logic.Relation.{ReflTransGenᴰ as Star}
use mathlib.Mathlib.Logic.Relation.ReflTransGenᴰ.{cases_head as first_step}
use mathlib.Mathlib.Logic.Relation.ReflTransGenᴰ.{trans as star-trans}
use Rattle.orders.specs.Newman.{NormalForm, Terminating, Joinable, LocallyConfluent, Confluent, UniqueNormalForms, Respected}

-- ── what implies what ──
module _ {A : Type 0} (Step : A → A → Type 0) (same : A → A → Type 0) (same-is : Equivalence same) where
  star_respected : Respected Step same → (a b c : A) → same a b → Star Step a c
      → (d : A) × Star Step b d × same c d
  star_respected resp a b c e none = (b, none, e)
  star_respected resp a b c e (one_more {b = m} h l) =
      let w = star_respected resp a b m e h in
      let x = resp m w.0 c w.2 l in
      (x.0, one_more w.1 x.1, x.2)

  star_normal : (a b : A) → NormalForm Step a → Star Step a b → a ≡ b
  star_normal a b f h = go (first_step h)
    where
      go : (a ≡ b) ⊎ ((c : A) × Step a c × Star Step c b) → a ≡ b
      go (inl e) = e
      go (inr w) = absurd (f w.0 w.1)

  -- two normal forms that are joinable are the same
  joinable⇒same : (b c : A) → NormalForm Step b → NormalForm Step c → Joinable Step same b c → same b c
  joinable⇒same b c fb fc j = rw (star_normal b j.0 fb j.2, star_normal c j.1 fc j.3) j.4

  pub confluent⇒unique_normal_forms : Confluent Step same → UniqueNormalForms Step same
  confluent⇒unique_normal_forms con a b c hb hc fb fc = joinable⇒same b c fb fc (con a b c hb hc)

  -- From b and c, one step away from a, further to b' and c'. Where both have all their ways joinable: join
  -- b with c, then b' with where they meet, then that with c'.
  diamond : Respected Step same → (b c b' c' : A) → Joinable Step same b c → Star Step b b' → Star Step c c'
      → ((x : A) → Star Step b x → Joinable Step same b' x)
      → ((x : A) → Star Step c x → Joinable Step same x c')
      → Joinable Step same b' c'
  diamond resp b c b' c' j hb hc from-b from-c =
      let p = from-b j.0 j.2 in
      let q = star_respected resp j.0 j.1 p.1 j.4 p.3 in
      let r = from-c q.0 (star-trans j.3 q.1) in
      let m = same-is.symm _ _ (same-is.trans _ _ _ p.4 q.2) in
      let t = star_respected resp q.0 p.0 r.0 m r.2 in
      (t.0, r.1, star-trans p.2 t.1, r.3, same-is.trans _ _ _ (same-is.symm _ _ t.2) r.4)

  -- by induction on a bound of the measure
  newman_below : (measure : A → ℕ) → Terminating Step measure → Respected Step same
      → LocallyConfluent Step same
      → (k : ℕ) (a b c : A) → measure a < k → Star Step a b → Star Step a c → Joinable Step same b c
  newman_below measure falls resp wcr zero a b c l hb hc = absurd (omega arith)
  newman_below measure falls resp wcr (suc k) a b c l hb hc =
      go (λ x y z s h h'. newman_below measure falls resp wcr k x y z (omega (arith, falls a x s)) h h')
      (first_step hb) (first_step hc)
    where
      go : ((x y z : A) → Step a x → Star Step x y → Star Step x z → Joinable Step same y z)
          → (a ≡ b) ⊎ ((x : A) × Step a x × Star Step x b) → (a ≡ c) ⊎ ((x : A) × Step a x × Star Step x c)
          → Joinable Step same b c
      go ih (inl e) y = (c, c, subst (λ x. Star Step x c) e hc, none, same-is.refl c)
      go ih (inr x) (inl e) = (b, b, none, subst (λ z. Star Step z b) e hb, same-is.refl b)
      go ih (inr x) (inr y) =
          diamond resp x.0 y.0 b c (wcr a x.0 y.0 x.1 y.1) x.2 y.2
          (λ z h. ih x.0 b z x.1 x.2 h) (λ z h. ih y.0 z c y.1 h y.2)

  -- Newman's lemma
  pub terminating&locally_confluent⇒confluent : (measure : A → ℕ) → Terminating Step measure
      → Respected Step same → LocallyConfluent Step same → Confluent Step same
  terminating&locally_confluent⇒confluent measure falls resp wcr a b c =
      newman_below measure falls resp wcr (suc (measure a)) a b c (omega arith)
