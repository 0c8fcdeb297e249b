-- Rows of w bytes each, as they are read into N slots: the law for tests and for assignments.
use mathlib.Core.Path.{◌≡◌, sym, ap, subst}
use mathlib.Core.List.{List}
use Prim.Native.Nat.{ℕ, suc, ◌+◌, ◌*◌, ◌≤◌, ◌<◌}
use native.Mathlib.Nat.{mul-le-mul_left, mul-suc}
use native.Mathlib.Omega.{arith}
use lib.ListN.{length, get_or}
use Rattle.little.proofs.StandsLaws.{Stands}
use Rattle.little.specs.Joined.{joined}
use Rattle.little.proofs.JoinedLaws.{length-joined, stands-joined, stands-each}
use Rattle.rule.specs.Fill.{filled}
use Rattle.rule.proofs.FillLaws.{get_or-filled, slots_are}

module _ {A : Type 0} (s : List ℕ) (N w : ℕ) (d : A) (B : A → List ℕ) (R : ℕ → A)
    (wide : (x : A) → length (B x) ≡ w) where
  abbrev rows_bytes : List A → ℕ → List ℕ
  rows_bytes xs n = joined n (λ j. B (get_or xs j d))

  place : (xs : List A) (i j : ℕ) → i + length (rows_bytes xs j) ≡ i + w * j
  place xs i j = ap (λ (k : ℕ). i + k) (length-joined w j (λ x. B (get_or xs x d)) (λ x. wide (get_or xs x d)))

  -- where the rows stand they are read
  pub rows-read : (i n : ℕ) (xs : List A) → n ≤ N → length xs ≡ N
      → ((j : ℕ) → j < n → (p : ℕ) → Stands s p (B (get_or xs j d)) → R p ≡ get_or xs j d)
      → ((j : ℕ) → n ≤ j → j < N → get_or xs j d ≡ d) → Stands s i (rows_bytes xs n) → filled N d (λ j. R (i + w * j)) n ≡ xs
  rows-read i n xs l e reads rest h =
      slots_are N d d (λ j. R (i + w * j)) n xs l e
      (λ j g.
      reads j g (i + w * j)
      (subst (λ (k : ℕ). Stands s k (B (get_or xs j d))) (place xs i j) (stands-each s i (λ x. B (get_or xs x d)) n h j g)))
      rest

  -- what was read has the bytes that stand there
  pub rows_stand : ((i : ℕ) → i + w ≤ length s → Stands s i (B (R i))) → (i n : ℕ) → i + w * n ≤ length s
      → Stands s i (rows_bytes (filled N d (λ j. R (i + w * j)) n) n)
  rows_stand stands i n l =
      let xs = filled N d (λ j. R (i + w * j)) n in
      stands-joined s i (λ x. B (get_or xs x d)) (omega arith) n
      (λ j g.
      let e : get_or xs j d ≡ R (i + w * j) = get_or-filled N d (λ x. R (i + w * x)) n d j g in
      let p : w * suc j ≤ w * n = mul-le-mul_left w g in
      let q : i + w * j + w ≤ length s = omega (arith, mul-suc w j) in
      subst (λ (k : ℕ). Stands s k (B (get_or xs j d))) (sym (place xs i j)) (rw e (stands (i + w * j) q)))
