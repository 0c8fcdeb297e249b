-- What only contracts of inner functions of `editor_check` cite.
use Rattle.std.specs.Prelude.{◌≡◌, List, [], ℕ, ◌^◌, ◌<◌, get_or}
use Rattle.refusal.specs.Answer.{Answer}
use Rattle.analysis_pairs.specs.declared.Masks.{Masks}
use Rattle.analysis_pairs.specs.AnalysisPairsInner.{masks_in}
use Rattle.editor_check.specs.RowNumbers.{check_rows}

-- the first number that applies, and where none does, every mask names records of the row only
pub record RowChecked (m : Masks) (a : Answer) : Type 0 where
  pub is : a ≡ check_rows m
  pub named : a.number ≡ 0 → (i : ℕ) → i < m.n → get_or m.precedes i 0 < 2 ^ m.n

-- a row of which no more is known than the precedes masks: all that the numbers ask for
abbrev pub only_precedes : ℕ → List ℕ → Masks
only_precedes n precedes = masks_in n [] [] [] precedes
