-- The pair condition in the paper's words, for any rules of which it is known who may trigger whom, who goes before
-- whom, and who commutes with whom.
use Rattle.std.specs.Prelude.{◌≡◌, Bool, true, false, not, ℕ, ◌≤◌}

-- `may r s`: r may trigger s; `before r s`: r goes before s
pub record Rules : Type 1 where
  pub may : ℕ → ℕ → Bool
  pub before : ℕ → ℕ → Type 0
  pub commute : ℕ → ℕ → Bool

-- "unordered i and j (neither goes before the other)"
abbrev pub Unordered : Rules → ℕ → ℕ → Type 0
Unordered b i j = (b.before i j → ⊥) × (b.before j i → ⊥)

-- "R1 starts as {i}, R2 as {j}. Until nothing changes: add to R1 each rule that one in R1 may trigger and that goes
-- before one in R2; add to R2 the same with the sets exchanged." At true R1, at false R2.
pub data Grown (may : ℕ → ℕ → Bool) (before : ℕ → ℕ → Type 0) (i j : ℕ) : Bool → ℕ → Type 0 where
  first : Grown may before i j true i
  second : Grown may before i j false j
  grow : {side : Bool} {r s t : ℕ} → Grown may before i j side r → may r s ≡ true → before s t
      → Grown may before i j (not side) t → Grown may before i j side s

abbrev pub R1 : Rules → ℕ → ℕ → ℕ → Type 0
R1 b i j r = Grown b.may b.before i j true r

abbrev pub R2 : Rules → ℕ → ℕ → ℕ → Type 0
R2 b i j r = Grown b.may b.before i j false r

-- "The pair passes when each rule of R1 commutes with each of R2."
abbrev pub Passes : Rules → ℕ → ℕ → Type 0
Passes b i j = (r s : ℕ) → R1 b i j r → R2 b i j s → b.commute r s ≡ true

-- "the lowest rule of R1 that fails to commute with some rule of R2, then the lowest rule of R2 that doesn't commute
-- with that one"
pub record Culprits (b : Rules) (i j r s : ℕ) : Type 0 where
  pub one : R1 b i j r
  pub other : R2 b i j s
  pub clash : b.commute r s ≡ false
  pub lowest : (x y : ℕ) → R1 b i j x → R2 b i j y → b.commute x y ≡ false → r ≤ x
  pub lowest-other : (y : ℕ) → R2 b i j y → b.commute r y ≡ false → s ≤ y
