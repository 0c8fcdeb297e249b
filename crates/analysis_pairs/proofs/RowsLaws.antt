-- A relation of numbers below 32 as a row of masks: it is read back from the row, and only one row has it.
use mathlib.Core.Path.{◌≡◌, sym, ap, ◌∙◌}
use mathlib.Core.Logic.{⊎_elim}
use mathlib.Core.Bool.{Bool, false}
use mathlib.Core.List.{List}
use Prim.Native.Nat.{ℕ, ◌^◌, ◌≤◌, ◌<◌}
use lib.ListN.{length, get_or, get_or-eq_default}
use lib.Pow.{pow_pos}
use lib.Seq.{ext_get_or}
use Rattle.mask.proofs.SearchLaws.{lt-or_ge}
use Rattle.mask.specs.Mask.{has, mask_of}
use Rattle.mask.proofs.BitsLaws.{has-zero, has-high}
use Rattle.mask.proofs.LoopsLaws.{picked_all, mask_of_picked, mask_of-lt, mask_of-unique}
use Rattle.graph.specs.GraphInner.{Rows}
use Rattle.rule.specs.Fill.{upto}
use Rattle.rule.proofs.FillLaws.{length-upto, get_or-upto}
use Rattle.analysis_pairs.specs.RuleMasks.{masks_by}
use Rattle.analysis_pairs.specs.AnalysisPairsInner.{Among}

pub turned-within : {n : ℕ} {f : ℕ → ℕ → Bool} → Among n f → Among n (λ r s. f s r)
turned-within w = record { from = λ r s. w.to s r; to = λ r s. w.from s r }

pub rows-length : (f : ℕ → ℕ → Bool) → length (masks_by f) ≡ 32
unfolding masks_by
rows-length f = length-upto 32 (λ r. mask_of 32 (f r))

rows_at : (f : ℕ → ℕ → Bool) (r : ℕ) → r < 32 → get_or (masks_by f) r 0 ≡ mask_of 32 (f r)
unfolding masks_by
rows_at f r l = get_or-upto 32 (λ r. mask_of 32 (f r)) 0 r l

pub rows-past : (f : ℕ → ℕ → Bool) (r : ℕ) → 32 ≤ r → get_or (masks_by f) r 0 ≡ 0
unfolding masks_by
rows-past f r l = get_or-eq_default (upto 32 (λ r. mask_of 32 (f r))) 0 {n = r} l

pub rows-lt : (f : ℕ → ℕ → Bool) → Rows 32 (masks_by f)
rows-lt f r =
    ⊎_elim (λ l. rw (rows_at f r l) (mask_of-lt 32 (f r))) (λ l. rw (rows-past f r l) (pow_pos 32)) (lt-or_ge r 32)

-- below 32 a relation is read back
pub rows-within : (f : ℕ → ℕ → Bool) (r s : ℕ) → r < 32 → s < 32 → has (get_or (masks_by f) r 0) s ≡ f r s
rows-within f r s l k =
    ap (λ (m : ℕ). has m s) (rows_at f r l) ∙ picked_all (f r) 32 (mask_of 32 (f r)) (mask_of_picked 32 (f r)) s k

-- a relation of numbers below 32 is read back everywhere
pub rows-has : (f : ℕ → ℕ → Bool) → ((r s : ℕ) → 32 ≤ r → f r s ≡ false) → ((r s : ℕ) → 32 ≤ s → f r s ≡ false)
    → (r s : ℕ) → has (get_or (masks_by f) r 0) s ≡ f r s
rows-has f out out' r s =
    ⊎_elim
    (λ l.
    ⊎_elim
    (rows-within f r s l)
    (λ k. has-high 32 s (rows-lt f r) k ∙ sym (out' r s k))
    (lt-or_ge s 32))
    (λ l. ap (λ (m : ℕ). has m s) (rows-past f r l) ∙ has-zero s ∙ sym (out r s l))
    (lt-or_ge r 32)

-- v is mask r of the row
abbrev pub Row : (ℕ → ℕ → Bool) → ℕ → ℕ → Type 0
Row f r v = (v < 2 ^ 32) × ((s : ℕ) → s < 32 → has v s ≡ f r s)

-- only one row has these masks
pub rows_only : (f : ℕ → ℕ → Bool) (t : List ℕ) → length t ≡ 32 → ((r : ℕ) → r < 32 → Row f r (get_or t r 0)) → t ≡ masks_by f
rows_only f t e h =
    ext_get_or 0 t (masks_by f) (e ∙ sym (rows-length f)) (λ r l.
    let l' : r < 32 = rw e at l in
    mask_of-unique 32 (f r) (get_or t r 0) (h r l').0 (h r l').1 ∙ sym (rows_at f r l'))

-- a row whose masks below n are these, and that has no others, is the row of a relation of numbers below n
pub row_is : (f : ℕ → ℕ → Bool) (n : ℕ) → Among n f → (t : List ℕ) → length t ≡ 32 → ((r : ℕ) → get_or t r 0 < 2 ^ 32)
    → ((r : ℕ) → r < n → r < 32 → (s : ℕ) → s < 32 → has (get_or t r 0) s ≡ f r s) → ((r : ℕ) → n ≤ r → get_or t r 0 ≡ 0) → t ≡ masks_by f
row_is f n w t e fits h out =
    rows_only f t e (λ r l. (
      fits r,
      λ s k.
          ⊎_elim
          (λ m. h r m l s k)
          (λ m. ap (λ (x : ℕ). has x s) (out r m) ∙ has-zero s ∙ sym (w.from r s m))
          (lt-or_ge r n),
    ))
