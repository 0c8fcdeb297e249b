-- The numbers below k: sums, searches and tests. With a few facts of Booleans.
use Rattle.std.specs.Prelude.{◌≡◌, refl, ◌⊎◌, Bool, true, false, ◌||◌, not, cond, ℕ, zero, suc, ◌+◌, ◌≤◌, ◌<◌}
use Rattle.std.proofs.Common.{sym, subst, inl, inr, ⊎_elim, arith}
use Rattle.std.proofs.Math.Bool.{So, and-eq-true_iff}
use Rattle.std.proofs.lemmas.Bool.{false≢true}
use Rattle.std.proofs.Math.Decide.{ℕ_discrete}
use Rattle.orders.specs.Finite.{sum, any, all}

-- ── Booleans ──
pub or_cases : (a b : Bool) → So (a || b) → So a ⊎ So b
or_cases true b h = inl refl
or_cases false b h = inr h

pub or_left : (a b : Bool) → So a → So (a || b)
or_left true b h = refl
or_left false b h = absurd (false≢true h)

pub or_right : (a b : Bool) → So b → So (a || b)
or_right true b h = refl
or_right false b h = h

pub not_intro : (b : Bool) → (So b → ⊥) → So (not b)
not_intro true h = absurd (h refl)
not_intro false h = refl

pub not-elim : (b : Bool) → So (not b) → So b → ⊥
not-elim true h k = false≢true h
not-elim false h k = false≢true k

-- two tests that pass together are equal
pub both_ways : (a b : Bool) → (So a → So b) → (So b → So a) → a ≡ b
both_ways true b f g = sym (f refl)
both_ways false true f g = g refl
both_ways false false f g = refl

-- w where a holds is at most w where b holds plus w where c does
pub cond-le : (a b c : Bool) (w : ℕ) → (So a → So b ⊎ So c) → cond a w 0 ≤ cond b w 0 + cond c w 0
cond-le false b c w h = omega arith
cond-le true b c w h = go (h refl)
  where
    go : So b ⊎ So c → w ≤ cond b w 0 + cond c w 0
    go (inl p) = rw p (omega arith)
    go (inr p) = rw p (omega arith)

-- ── sums ──
pub sum-add : (f g : ℕ → ℕ) (k : ℕ) → sum (λ s. f s + g s) k ≡ sum f k + sum g k
unfolding sum
sum-add f g zero = refl
sum-add f g (suc k) = omega (arith, sum-add f g k)

pub sum-le : (f g : ℕ → ℕ) (k : ℕ) → ((s : ℕ) → s < k → f s ≤ g s) → sum f k ≤ sum g k
unfolding sum
sum-le f g zero h = omega arith
sum-le f g (suc k) h = omega (arith, sum-le f g k (λ s l. h s (omega arith)), h k (omega arith))

-- where one number has d to spare, so has the sum
pub sum_spare : (f g : ℕ → ℕ) (d r k : ℕ) → ((s : ℕ) → s < k → f s ≤ g s) → r < k → f r + d ≤ g r
    → sum f k + d ≤ sum g k
unfolding sum
sum_spare f g d r zero h l e = omega arith
sum_spare f g d r (suc k) h l e =
    go (λ m. sum_spare f g d r k (λ s m. h s (omega arith)) m e) (ℕ_discrete r k)
  where
    go : (r < k → sum f k + d ≤ sum g k) → Dec (r ≡ k) → sum f k + f k + d ≤ sum g k + g k
    go ih (yes p) =
        let e' : f k + d ≤ g k = rw p at e in
        omega (arith, sum-le f g k (λ s m. h s (omega arith)))
    go ih (no p) = omega (arith, ih (omega arith), h k (omega arith))

-- a term is at most the sum
pub sum_term : (f : ℕ → ℕ) (r k : ℕ) → r < k → f r ≤ sum f k
unfolding sum
sum_term f r zero l = omega arith
sum_term f r (suc k) l = go (λ m. sum_term f r k m) (ℕ_discrete r k)
  where
    go : (r < k → f r ≤ sum f k) → Dec (r ≡ k) → f r ≤ sum f k + f k
    go ih (yes p) = rw p (omega arith)
    go ih (no p) = omega (arith, ih (omega arith))

-- ── searches ──
pub search_below : (D : ℕ → Type 0) → ((r : ℕ) → Dec (D r)) → (k : ℕ) → Dec ((r : ℕ) × (r < k) × D r)
search_below D dec zero = no (λ w. omega (arith, w.1))
search_below D dec (suc k) = go (dec k) (search_below D dec k)
  where
    go : Dec (D k) → Dec ((r : ℕ) × (r < k) × D r) → Dec ((r : ℕ) × (r < suc k) × D r)
    go (yes d) e = yes (k, omega arith, d)
    go (no d) (yes w) = yes (w.0, omega (arith, w.1), w.2)
    go (no d) (no e) = no (λ w. split w (ℕ_discrete w.0 k))
      where
        split : (w : (r : ℕ) × (r < suc k) × D r) → Dec (w.0 ≡ k) → ⊥
        split w (yes p) = d (subst D p w.2)
        split w (no p) = e (w.0, omega (arith, w.1), w.2)

pub any-elim : (p : ℕ → Bool) (k : ℕ) → So (any p k) → (x : ℕ) × (x < k) × So (p x)
unfolding any
any-elim p zero h = absurd (false≢true h)
any-elim p (suc k) h =
    ⊎_elim (λ i. (k, omega arith, i))
    (λ i.
    let w = any-elim p k i in
    (w.0, omega (arith, w.1), w.2))
    (or_cases (p k) (any p k) h)

pub any_intro : (p : ℕ → Bool) (k x : ℕ) → x < k → So (p x) → So (any p k)
unfolding any
any_intro p zero x l h = absurd (omega arith)
any_intro p (suc k) x l h = go (λ m. any_intro p k x m h) (ℕ_discrete x k)
  where
    go : (x < k → So (any p k)) → Dec (x ≡ k) → So (p k || any p k)
    go ih (yes e) = or_left (p k) (any p k) (subst (λ z. So (p z)) e h)
    go ih (no e) = or_right (p k) (any p k) (ih (omega arith))

pub all-elim : (p : ℕ → Bool) (k : ℕ) → So (all p k) → (x : ℕ) → x < k → So (p x)
unfolding all
all-elim p zero h x l = absurd (omega arith)
all-elim p (suc k) h x l =
    go ((and-eq-true_iff (p k) (all p k)).0 h) (λ i m. all-elim p k i x m) (ℕ_discrete x k)
  where
    go : So (p k) × So (all p k) → (So (all p k) → x < k → So (p x)) → Dec (x ≡ k) → So (p x)
    go b ih (yes e) = subst (λ z. So (p z)) (sym e) b.0
    go b ih (no e) = ih b.1 (omega arith)
