-- Laws of sums over a set and over all numbers: a sum over a set is at most that over all, and one store adds at most what it stores.
use mathlib.Core.Path.{◌≡◌, refl, sym, ap, ap₂, ◌∙◌, subst}
use mathlib.Core.Bool.{Bool, true, false, cond}
use mathlib.Core.List.{List}
use Prim.Native.Nat.{ℕ, zero, suc, ◌+◌, ◌≤◌, ◌<◌}
use native.Mathlib.Nat.{le_refl, le_trans, le-suc, le_of_eq, lt_irrefl, not-suc-le-zero, eq-or-lt_of_le, le_of_suc-le-suc}
use native.Mathlib.Decide.{le_ind, ℕ_discrete}
use native.Mathlib.Numerals.{add-one}
use native.Mathlib.Omega.{arith}
use mathlib.Core.Logic.{⊎_elim}
use lib.ListN.{get_or, set, length}
use lib.Seq.{get_or-set_same, get_or-set_other}
use Rattle.mask.specs.Mask.{has}
use Rattle.analysis_weights.specs.Weight.{total}
use Rattle.analysis_weights.specs.AnalysisWeightsInner.{sum_below, weight_in}

-- ---- over a set

pub total-same : (k m : ℕ) (f g : ℕ → ℕ) → ((s : ℕ) → s < k → has m s ≡ true → f s ≡ g s) → total k m f ≡ total k m g
unfolding total
total-same zero m f g h = refl
total-same (suc k) m f g h =
    ap₂ ◌+◌ (total-same k m f g (λ s l. h s (le_trans l (le-suc k)))) (pick (has m k) (h k (le_refl (suc k))))
  where
    pick : (b : Bool) → (b ≡ true → f k ≡ g k) → cond b (f k) 0 ≡ cond b (g k) 0
    pick true e = e refl
    pick false e = refl

pub total-more : (k m : ℕ) (f : ℕ → ℕ) → total (k + 1) m f ≡ total k m f + cond (has m k) (f k) 0
unfolding total
total-more k m f = ap (λ (i : ℕ). total i m f) (add-one k)

-- a member is at most the sum
pub total-at : (k m : ℕ) (f : ℕ → ℕ) (s : ℕ) → s < k → has m s ≡ true → f s ≤ total k m f
unfolding total
total-at zero m f s l e = absurd (not-suc-le-zero l)
total-at (suc k) m f s l e =
    ⊎_elim
    (λ q. let h : has m k ≡ true = subst (λ (x : ℕ). has m x ≡ true) q e in rw (h, ← q) (omega arith))
    (λ h. omega (arith, total-at k m f s h e))
    (eq-or-lt_of_le (le_of_suc-le-suc l))

-- ---- over all

if_le : (b : Bool) (v : ℕ) → cond b v 0 ≤ v
if_le true v = le_refl v
if_le false v = omega arith

pub total-le : (k m : ℕ) (f : ℕ → ℕ) → total k m f ≤ sum_below k f
unfolding total sum_below
total-le zero m f = omega arith
total-le (suc k) m f = omega (arith, total-le k m f, if_le (has m k) (f k))

sum_below_mono : (f : ℕ → ℕ) (n k : ℕ) → n ≤ k → sum_below n f ≤ sum_below k f
unfolding sum_below
sum_below_mono f n = le_ind (λ k. sum_below n f ≤ sum_below k f) (le_refl (sum_below n f)) (λ m l e. omega arith)

pub sum_below-at : (k : ℕ) (f : ℕ → ℕ) (x : ℕ) → x < k → sum_below x f + f x ≤ sum_below k f
unfolding sum_below
sum_below-at k f x h = sum_below_mono f (suc x) k h

-- ---- after a store

sum_below-below : (w : List ℕ) (i v k : ℕ) → k ≤ i → sum_below k (weight_in (set w i v)) ≡ sum_below k (weight_in w)
unfolding sum_below
sum_below-below w i v zero l = refl
sum_below-below w i v (suc k) l =
    ap₂ ◌+◌ (sum_below-below w i v k (le_trans (le-suc k) l))
    (get_or-set_other w i k v 0 (λ z. lt_irrefl k (subst (λ (x : ℕ). k < x) (sym z) l)))

pub sum_below-set : (w : List ℕ) (i v k : ℕ) → i < length w → sum_below k (weight_in (set w i v)) ≤ sum_below k (weight_in w) + v
unfolding sum_below
sum_below-set w i v zero h = omega arith
sum_below-set w i v (suc k) h =
    let ih : sum_below k (weight_in (set w i v)) ≤ sum_below k (weight_in w) + v = sum_below-set w i v k h in
    elim (ℕ_discrete k i) [
      | yes z ↦
          let e : sum_below k (weight_in (set w i v)) ≡ sum_below k (weight_in w) = sum_below-below w i v k (le_of_eq z) in
          let f : get_or (set w i v) k 0 ≡ v = ap (λ (x : ℕ). get_or (set w i v) x 0) z ∙ get_or-set_same w i v 0 h in
          omega (arith, e, f)
      | no z ↦
          let f : get_or (set w i v) k 0 ≡ get_or w k 0 = get_or-set_other w i k v 0 z in
          omega (arith, ih, f)
    ]
