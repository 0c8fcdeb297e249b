-- The numbers below k: a sum over them, tests of some and of all of them.
use Rattle.std.specs.Prelude.{Bool, true, false, ◌&&◌, ◌||◌, ℕ, zero, suc, ◌+◌}

-- f 0 + f 1 + … + f (k - 1)
unfoldable pub sum : (ℕ → ℕ) → ℕ → ℕ
sum f zero = 0
sum f (suc k) = sum f k + f k

-- some number below k passes the test
unfoldable pub any : (ℕ → Bool) → ℕ → Bool
any p zero = false
any p (suc k) = p k || any p k

-- every number below k passes the test
unfoldable pub all : (ℕ → Bool) → ℕ → Bool
all p zero = true
all p (suc k) = p k && all p k
