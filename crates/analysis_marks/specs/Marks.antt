-- The mark of a pair, and the first pair that fails.
use Rattle.std.specs.Prelude.{◌≡◌, ◌⊎◌, Bool, List, ℕ, ◌≤◌, ◌<◌, eqb, get_or}
use Rattle.mask.specs.Search.{count, least}
use Rattle.analysis_pairs.specs.Rules.{Rules, Unordered, Passes, Culprits}
use Rattle.analysis_marks.specs.Index.{index}

-- the mark of a pair of n rules, i below j: "0 ordered or absent, 1 passes, 2 fails"
pub data Marked (b : Rules) (n i j : ℕ) : ℕ → Type 0 where
  absent : n ≤ j → Marked b n i j 0
  ordered : j < n → b.before i j ⊎ b.before j i → Marked b n i j 0
  passes : j < n → Unordered b i j → Passes b i j → Marked b n i j 1
  fails : j < n → Unordered b i j → (Passes b i j → ⊥) → Marked b n i j 2

-- whether the mark at k is 2
abbrev pub fails_at : List ℕ → ℕ → Bool
fails_at marks k = eqb (get_or marks k 0) 2

-- "the first failing pair with two culprits", row by row
pub record First (b : Rules) (marks : List ℕ) (i j culprit other : ℕ) : Type 0 where
  pub low : i < j
  pub high : j < 32
  pub earliest : index i j ≡ least 496 (fails_at marks)
  pub culprits : Culprits b i j culprit other

-- "With no failing pair these four are 0."
pub record FirstOf (b : Rules) (marks : List ℕ) (i j culprit other : ℕ) : Type 0 where
  pub none : count 496 (fails_at marks) ≡ 0 → (i ≡ 0) × (j ≡ 0) × (culprit ≡ 0) × (other ≡ 0)
  pub some : 0 < count 496 (fails_at marks) → First b marks i j culprit other
