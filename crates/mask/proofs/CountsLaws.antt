-- Counting below n: one more number, none that counts, at least one.
use mathlib.Core.Path.{◌≡◌, refl, ap, ap₂}
use mathlib.Core.Bool.{Bool, true, false, not, ◌&&◌}
use Prim.Native.Nat.{ℕ, zero, suc, ◌+◌, ◌<◌}
use native.Mathlib.Nat.{le_refl, le_trans, le-suc}
use native.Mathlib.Numerals.{add-one}
use native.Mathlib.Omega.{arith}
use lib.Dec.{eqb}
use Rattle.mask.specs.Search.{count}
use Rattle.mask.proofs.SearchLaws.{one_if, count-drop}

pub count-more : (n : ℕ) (f : ℕ → Bool) → count (n + 1) f ≡ count n f + one_if (f n)
unfolding count
count-more n f = ap (λ (k : ℕ). count k f) (add-one n)

pub count_none : (n : ℕ) (f : ℕ → Bool) → ((i : ℕ) → i < n → f i ≡ false) → count n f ≡ 0
unfolding count
count_none zero f h = refl
count_none (suc n) f h =
    ap₂ (λ (x : ℕ) (b : Bool). x + one_if b) (count_none n f (λ i l. h i (le_trans l (le-suc n)))) (h n (le_refl (suc n)))

pub count-some : (n : ℕ) (f : ℕ → Bool) (i : ℕ) → i < n → f i ≡ true → 0 < count n f
count-some n f i l e = omega (arith, count-drop n f (λ k. f k && not (eqb k i)) i l e (λ k. refl))
