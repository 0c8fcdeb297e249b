-- Amounts in cells: the test that some cell of a set differs tells just that.
use Rattle.std.specs.Prelude.{◌≡◌, refl, ◌≢◌, Bool, ◌&&◌, ℕ, ◌<◌, eqb, ℤ, pos, negsuc}
use Rattle.std.proofs.Common.{sym, ◌∙◌, ap, arith, eqb-true, eq-eqb}
use Rattle.std.proofs.Math.Bool.{So, and-eq-true_iff}
use Rattle.orders.proofs.FiniteLaws.{any-elim, any_intro, both_ways, not_intro, not-elim}
use Rattle.orders.specs.Cells.{Cells, EqualOn, differs, changed}

pub equal_on_sym : (k : ℕ) (a : ℕ → Bool) (c d : Cells) → EqualOn k a c d → EqualOn k a d c
equal_on_sym k a c d h x l i = sym (h x l i)

pub differs-elim : (x y : ℤ) → So (differs x y) → x ≢ y
unfolding differs
differs-elim (pos m) (pos n) h e = not-elim (eqb m n) h (eq-eqb m n (cc))
differs-elim (pos m) (negsuc n) h e =
    let z : ◌≡◌ {A = ℕ} 0 1 = cc in
    omega arith
differs-elim (negsuc m) (pos n) h e =
    let z : ◌≡◌ {A = ℕ} 0 1 = cc in
    omega arith
differs-elim (negsuc m) (negsuc n) h e = not-elim (eqb m n) h (eq-eqb m n (cc))

pub differs_intro : (x y : ℤ) → x ≢ y → So (differs x y)
unfolding differs
differs_intro (pos m) (pos n) h = not_intro (eqb m n) (λ e. h (ap pos (eqb-true m n e)))
differs_intro (pos m) (negsuc n) h = refl
differs_intro (negsuc m) (pos n) h = refl
differs_intro (negsuc m) (negsuc n) h = not_intro (eqb m n) (λ e. h (ap negsuc (eqb-true m n e)))

module _ (k : ℕ) (a : ℕ → Bool) where
  pub changed-elim : (c d : Cells) → So (changed k a c d) → (x : ℕ) × (x < k) × So (a x) × (c x ≢ d x)
  unfolding changed
  changed-elim c d h =
      let w = any-elim (λ x. a x && differs (c x) (d x)) k h in
      let p = (and-eq-true_iff (a w.0) (differs (c w.0) (d w.0))).0 w.2 in
      (w.0, w.1, p.0, differs-elim (c w.0) (d w.0) p.1)

  pub changed_intro : (c d : Cells) (x : ℕ) → x < k → So (a x) → c x ≢ d x → So (changed k a c d)
  unfolding changed
  changed_intro c d x l i ne =
      any_intro (λ x. a x && differs (c x) (d x)) k x l
      ((and-eq-true_iff (a x) (differs (c x) (d x))).1 (i, differs_intro (c x) (d x) ne))

  pub changed-still : (c d : Cells) → EqualOn k a d c → So (changed k a c d) → ⊥
  changed-still c d h i =
      let w = changed-elim c d i in
      w.3 (sym (h w.0 w.1 w.2))

  changed-implies : (c d c' d' : Cells) → EqualOn k a c c' → EqualOn k a d d' → So (changed k a c d)
      → So (changed k a c' d')
  changed-implies c d c' d' h g i =
      let w = changed-elim c d i in
      let x = w.0 in
      changed_intro c' d' x w.1 w.2 (λ e. w.3 (h x w.1 w.2 ∙ e ∙ sym (g x w.1 w.2)))

  -- the test sees no more than the cells of the set
  pub changed-local : (c d c' d' : Cells) → EqualOn k a c c' → EqualOn k a d d'
      → changed k a c d ≡ changed k a c' d'
  changed-local c d c' d' h g =
      both_ways _ _ (changed-implies c d c' d' h g)
      (changed-implies c' d' c d (equal_on_sym k a c c' h) (equal_on_sym k a d d' g))
