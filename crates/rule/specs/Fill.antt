-- An array of N slots of which the first n are filled and the rest hold d: "In memory, slots past a count are all zero."
use Rattle.std.specs.Prelude.{List, [], ◌∷◌, ◌++◌, ℕ, zero, suc, ◌-◌, replicate}

module _ {A : Type 0} where
  -- f 0, f 1, .., f (n - 1)
  abbrev pub upto : ℕ → (ℕ → A) → List A
  upto zero f = []
  upto (suc n) f = upto n f ++ (f n ∷ [])

  abbrev pub filled : ℕ → A → (ℕ → A) → ℕ → List A
  filled N d f n = upto n f ++ replicate (N - n) d
