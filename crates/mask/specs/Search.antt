-- Search below n: whether a test holds somewhere, the least number at which it holds, at how many it holds.
use Rattle.std.specs.Prelude.{◌≡◌, Bool, true, false, ◌||◌, cond, ℕ, zero, suc, ◌+◌, ◌<◌, ltb, Option, Some, None, MatchOption}

-- whether f holds somewhere below n
unfoldable pub some : ℕ → (ℕ → Bool) → Bool
some zero f = false
some (suc n) f = f n || some n f

-- the least number below n at which f holds, or n where there is none
unfoldable pub least : ℕ → (ℕ → Bool) → ℕ
least zero f = 0
least (suc n) f = cond (f 0) 0 (suc (least n (λ i. f (suc i))))

-- that number, where there is one
abbrev pub least_at : ℕ → (ℕ → Bool) → Option ℕ
least_at n f = cond (ltb (least n f) n) (Some (least n f)) None

-- r is that number, or none where there is none
abbrev pub IsLeast : ℕ → (ℕ → Bool) → Option ℕ → Type 0
IsLeast n f r =
    MatchOption r ((i : ℕ) → i < n → f i ≡ false) (λ x. (x < n) × (f x ≡ true) × ((i : ℕ) → i < x → f i ≡ false))

-- at how many numbers below n f holds
unfoldable pub count : ℕ → (ℕ → Bool) → ℕ
count zero f = 0
count (suc n) f = count n f + cond (f n) 1 0
