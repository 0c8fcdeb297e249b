-- A set of numbers below 32 as a mask: bit i of m says whether i is a member.
use Rattle.std.specs.Prelude.{Bool, ◌&&◌, cond, ℕ, zero, suc, ◌+◌, ◌/◌, ◌%◌, ◌^◌, eqb, leb}
use Rattle.mask.specs.Search.{some}

-- whether i is a member of m
unfoldable pub has : ℕ → ℕ → Bool
has m i = eqb (m / 2 ^ i % 2) 1

-- whether two sets share a member
unfoldable pub meet : ℕ → ℕ → Bool
meet a b = some 32 (λ i. has a i && has b i)

-- whether some member of m is n or more
unfoldable pub beyond : ℕ → ℕ → Bool
beyond m n = some 32 (λ i. has m i && leb n i)

-- the mask of the numbers below n at which f holds
unfoldable pub mask_of : ℕ → (ℕ → Bool) → ℕ
mask_of zero f = 0
mask_of (suc n) f = mask_of n f + cond (f n) (2 ^ n) 0
