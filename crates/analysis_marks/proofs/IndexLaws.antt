-- Distinct pairs have distinct places, all below 496, and every place below 496 is that of a pair.
use mathlib.Core.Path.{◌≡◌, refl, ap}
use mathlib.Core.Logic.{⊎_elim}
use Prim.Native.Nat.{ℕ, zero, suc, ◌+◌, ◌-◌, ◌≤◌, ◌<◌}
use native.Mathlib.Nat.{le_refl, le_trans, le-suc, not-suc-le-zero}
use native.Mathlib.Decide.{le_ind}
use native.Mathlib.Omega.{arith}
use Rattle.mask.proofs.SearchLaws.{lt-or_ge}
use Rattle.analysis_marks.specs.Index.{start, index}

pub start_mono : (i k : ℕ) → i ≤ k → start i ≤ start k
unfolding start
start_mono i = le_ind (λ k. start i ≤ start k) (le_refl (start i)) (λ k l e. omega arith)

pub start-next : (i : ℕ) → start (suc i) ≡ start i + (31 - i)
unfolding start
start-next i = refl

pub start-all : start 31 ≡ 496
unfolding start
start-all = refl

-- a pair stands within its row
pub index-row : (i j : ℕ) → i < j → j < 32 → index i j < start (suc i)
index-row i j l h = omega (arith, start-next i)

pub index-lt : (i j : ℕ) → i < j → j < 32 → index i j < 496
index-lt i j l h =
    omega (arith, index-row i j l h, start_mono (suc i) 31 (le_trans l (omega arith)), start-all)

pub index_inj : (i j i' j' : ℕ) → i < j → j < 32 → i' < j' → j' < 32 → index i j ≡ index i' j' → (i ≡ i') × (j ≡ j')
index_inj i j i' j' l h l' h' e =
    ⊎_elim
    (λ k. let f : ⊥ = omega (arith, index-row i j l h, start_mono (suc i) i' k) in absurd f)
    (λ k.
    ⊎_elim
    (λ q. let f : ⊥ = omega (arith, index-row i' j' l' h', start_mono (suc i') i q) in absurd f)
    (λ q. let z : i ≡ i' = omega arith in (z, let s : start i ≡ start i' = ap start z in omega arith))
    (lt-or_ge i' i))
    (lt-or_ge i i')

-- ---- every place is that of a pair

pub record RowOf (b k : ℕ) : Type 0 where
  pub row : ℕ
  pub below : row < b
  pub from : start row ≤ k
  pub to : k < start (suc row)

row_of : (b k : ℕ) → k < start b → RowOf b k
unfolding start
row_of zero k l = absurd (not-suc-le-zero l)
row_of (suc b) k l =
    ⊎_elim
    (λ h.
    let r : RowOf b k = row_of b k h in
    record { row = r.row; below = le_trans r.below (le-suc b); from = r.from; to = r.to })
    (λ h. record { row = b; below = le_refl (suc b); from = h; to = l })
    (lt-or_ge k (start b))

pub record PairAt (k : ℕ) : Type 0 where
  pub i : ℕ
  pub j : ℕ
  pub low : i < j
  pub high : j < 32
  pub at : index i j ≡ k

pub pair-at : (k : ℕ) → k < 496 → PairAt k
pair-at k l =
    let r : RowOf 31 k = row_of 31 k (omega (arith, start-all)) in
    record {
      i = r.row;
      j = suc r.row + (k - start r.row);
      low = omega arith;
      high = omega (arith, start-next r.row);
      at = omega arith;
    }

-- a row that starts at or before a place is no later than the last
pub row_low : (i k : ℕ) → start i ≤ k → k < 496 → i < 31
row_low i k l h =
    ⊎_elim (λ q. q) (λ q. let f : ⊥ = omega (arith, start_mono 31 i q, start-all) in absurd f) (lt-or_ge i 31)

-- a pair whose place lies in row i is of row i
pub row_is : (i i' j' : ℕ) → i' < j' → j' < 32 → start i ≤ index i' j' → index i' j' < start (suc i) → i ≡ i'
row_is i i' j' l h a b =
    ⊎_elim
    (λ k. let f : ⊥ = omega (arith, start_mono (suc i) i' k) in absurd f)
    (λ k.
    ⊎_elim
    (λ q. let f : ⊥ = omega (arith, index-row i' j' l h, start_mono (suc i') i q) in absurd f)
    (λ q. omega arith)
    (lt-or_ge i' i))
    (lt-or_ge i i')
