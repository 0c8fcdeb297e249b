-- The report of a row of records: its four rows of masks, its numbers 3, 6 and 10, and the analysis's own report.
use Rattle.std.specs.Prelude.{List, ℕ, get_or, length}
use Rattle.table.specs.Check.{Checked}
use Rattle.analysis_pairs.specs.declared.Masks.{Masks}
use Rattle.analysis_pairs.specs.RuleMasks.{masks_from}
use Rattle.analysis_masks.specs.Report.{Report}
use Rattle.analysis_masks.specs.Report.{Reported}
use Rattle.analysis_masks.specs.Report.{refused_report}
use Rattle.editor.specs.declared.Record.{Record}
use Rattle.editor_check.specs.RowNumbers.{check_rows}

abbrev pub no_record : Record
no_record = record { watch = 0; reads = 0; writes = 0; precedes = 0 }

-- the masks of the first n records
abbrev pub first_masks : List Record → ℕ → Masks
first_masks rs n =
    let of : (Record → ℕ) → ℕ → ℕ = λ mask i. mask (get_or rs i no_record) in
    masks_from n (of (λ r. r.watch)) (of (λ r. r.reads)) (of (λ r. r.writes)) (of (λ r. r.precedes))

-- "four masks a rule (watch, reads, writes, precedes)": those of every record
abbrev pub row_masks : List Record → Masks
row_masks rs = first_masks rs (length rs)

-- refused by the first number that applies; else "the same report" as of a table's masks
abbrev pub RowsSay : Masks → Report → Type 0
RowsSay m = Checked (check_rows m) refused_report (Reported m)
