-- Each start is at most the next, so a body ends where the last one ends, or before.
use mathlib.Core.Path.{◌≡◌, refl}
use Prim.Native.Nat.{ℕ, zero, suc, ◌+◌, ◌-◌, ◌≤◌, ◌<◌}
use native.Mathlib.Nat.{add-zero, le_refl}
use native.Mathlib.Numerals.{add-one}
use native.Mathlib.Omega.{arith}
use Rattle.table.specs.BodyStarts.{start_at}

module _ (n : ℕ) (size : ℕ → ℕ) where
  pub start-more : (i : ℕ) → start_at n size (i + 1) ≡ start_at n size i + size i
  unfolding start_at
  start-more i = rw add-one refl

  starts-grow : (i m : ℕ) → start_at n size i ≤ start_at n size (i + m)
  starts-grow i zero = rw add-zero (le_refl (start_at n size i))
  starts-grow i (suc m) =
      let e : i + suc m ≡ i + m + 1 = omega arith in
      rw (e, start-more) (omega (arith, starts-grow i m))

  pub starts-within : (i : ℕ) → i < n → start_at n size i + size i ≤ start_at n size n
  starts-within i l =
      let e : i + 1 + (n - (i + 1)) ≡ n = omega arith in
      omega (arith, start-more i, rw e at (starts-grow (i + 1) (n - (i + 1))))

  -- with the same lengths the starts are the same
  pub starts-same : (other : ℕ → ℕ) (i : ℕ) → ((j : ℕ) → j < i → size j ≡ other j) → start_at n size i ≡ start_at n other i
  unfolding start_at
  starts-same other zero h = refl
  starts-same other (suc i) h = omega (arith, starts-same other i (λ j l. h j (omega arith)), h i (omega arith))
