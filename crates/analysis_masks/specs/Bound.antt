-- The step bound of a set of rules.
use Rattle.std.specs.Prelude.{◌≡◌, true, false, ℕ}
use Rattle.mask.specs.Mask.{beyond}
use Rattle.analysis_weights.specs.Weight.{total, weight_of}
use Rattle.analysis_pairs.specs.declared.Masks.{Masks}
use Rattle.analysis_pairs.specs.RuleMasks.{triggers}
use Rattle.analysis_masks.specs.Cleared.{Faulty}

-- a step bound as the paper gives it
pub record Bound : Type 0 where
  pub number : ℕ
  pub place : ℕ
  pub bound : ℕ

-- 11 where "the state or mask doesn't fit the book"; then 17 for a "step bound asked of a book whose trigger graph has
-- a cycle"; "A refused step bound is 0." Else "The step bound of a set is the sum of its weights."
pub record Bounded (m : Masks) (set : ℕ) (b : Bound) : Type 0 where
  pub place : b.place ≡ 255
  pub unfit : beyond set m.n ≡ true → (b.number ≡ 11) × (b.bound ≡ 0)
  pub endless : beyond set m.n ≡ false → (r : ℕ) → Faulty m r → (b.number ≡ 17) × (b.bound ≡ 0)
  pub done : beyond set m.n ≡ false → ((r : ℕ) → Faulty m r → ⊥) → (b.number ≡ 0) × (b.bound ≡ total 32 set (weight_of (triggers m) m.n))

-- "A refused step bound is 0."
abbrev pub refused_bound : ℕ → ℕ → Bound
refused_bound number place = record { number = number; place = place; bound = 0 }
