-- Amounts in cells: when two of them are equal on a set of cells, and the test that some cell of a set
-- differs.
use Rattle.std.specs.Prelude.{◌≡◌, Bool, true, ◌&&◌, not, ℕ, ◌<◌, eqb, ℤ, pos, negsuc}
use Rattle.std.proofs.Math.Bool.{So}
use Rattle.orders.specs.Finite.{any}

abbrev pub Cells : Type 0
Cells = ℕ → ℤ

-- equal at each of the k cells that is in the set
abbrev pub EqualOn : ℕ → (ℕ → Bool) → Cells → Cells → Type 0
EqualOn k a c d = (x : ℕ) → x < k → So (a x) → c x ≡ d x

-- "value now differs from before"
unfoldable pub differs : ℤ → ℤ → Bool
differs (pos m) (pos n) = not (eqb m n)
differs (pos m) (negsuc n) = true
differs (negsuc m) (pos n) = true
differs (negsuc m) (negsuc n) = not (eqb m n)

-- one of the k cells that is in the set differs
unfoldable pub changed : ℕ → (ℕ → Bool) → Cells → Cells → Bool
changed k a c d = any (λ x. a x && differs (c x) (d x)) k
