-- A row of records as bytes: 16 for each, its four masks one after another.
use mathlib.Core.Path.{◌≡◌, sym, ap, ◌∙◌}
use mathlib.Core.List.{List}
use Prim.Native.Nat.{ℕ, ◌+◌, ◌*◌, ◌/◌}
use native.Mathlib.Omega.{arith}
use lib.ListN.{length, get_or}
use Rattle.little.specs.Little.{u32_at}
use Rattle.rule.specs.Fill.{filled}
use Rattle.rule.proofs.FillLaws.{length-upto, get_or-upto}
use Rattle.analysis_pairs.specs.AnalysisPairsInner.{masks_in}
use Rattle.rule_read.specs.RuleReadInner.{column_in}
use Rattle.rule_read.proofs.ColumnLaws.{column-same}
use Rattle.editor.specs.declared.Record.{Record}
use Rattle.editor.specs.Rows.{no_record, first_masks, row_masks}
use Rattle.editor.specs.RowsIn.{record_in, rows_in}

-- ---- the masks that stand at one place of each record

column-is : (s : List ℕ) (f : Record → ℕ) (at : ℕ) → ((i : ℕ) → u32_at s (at + 16 * i) ≡ f (record_in s i))
    → column_in s at 16 (length s / 16) ≡ filled 32 0 (λ i. f (get_or (rows_in s) i no_record)) (length s / 16)
column-is s f at h =
    column-same s at 16 (length s / 16) (λ i. f (get_or (rows_in s) i no_record))
    (λ i l. h i ∙ ap f (sym (get_or-upto (length s / 16) (record_in s) no_record i l)))

-- four such columns are the masks of the row
pub columns_are : (s : List ℕ) → (let n = length s / 16 in masks_in n (column_in s 0 16 n) (column_in s 4 16 n) (column_in s 8 16 n)
    (column_in s 12 16 n) ≡ row_masks (rows_in s))
columns_are s =
    rw (
      column-is s (λ r. r.watch) 0 (λ i. ap (u32_at s) (omega arith)),
      column-is s (λ r. r.reads) 4 (λ i. ap (u32_at s) (omega arith)),
      column-is s (λ r. r.writes) 8 (λ i. ap (u32_at s) (omega arith)),
      column-is s (λ r. r.precedes) 12 (λ i. ap (u32_at s) (omega arith)),
    )
    (ap (first_masks (rows_in s)) (sym (length-upto (length s / 16) (record_in s))))
