-- Nothing that a call returns or leaves is open: where one answer alone is promised, one alone crosses.
use mathlib.Core.Path.{◌≡◌, sym, ap, ◌∙◌, subst}
use mathlib.Core.Logic.{⊎_elim}
use mathlib.Core.List.{List}
use Prim.Native.Nat.{ℕ, ◌^◌, ◌≤◌, ◌<◌}
use native.Mathlib.Omega.{arith}
use lib.ListN.{length, get_or-eq_default}
use Rattle.mask.proofs.SearchLaws.{lt-or_ge}
use Rattle.little.specs.EachByte.{Bytes}
use Rattle.rule.specs.declared.Rule.{Rule}
use Rattle.rule.specs.Empty.{no_rule}
use Rattle.table.specs.Table.{Table, rule_at}
use Rattle.table.specs.Memory.{table_from}
use Rattle.table.proofs.HoldsLaws.{loaded_held}
use Rattle.analysis_pairs.specs.declared.Masks.{Masks}
use Rattle.analysis.specs.Says.{ReportSays, BoundSays}
use Rattle.analysis.proofs.SaysLaws.{report-unique, bound_of_unique}
use Rattle.editor.specs.Rows.{RowsSay}
use Rattle.editor.proofs.EditorRowsLaws.{rows-unique}
use Rattle.report_lines.specs.Lines.{LinesSay}
use Rattle.report_lines.proofs.LinesUniqueLaws.{lines-unique}
use Rattle.gwaunidor_report.specs.ReportOut.{report_out, bound_out, lines_out, Crosses}

determined : {A B : Type 0} {Says : A → Type 0} {out : A → B} → ((x y : A) → Says x → Says y → x ≡ y)
    → {b c : B} → Crosses Says out b → Crosses Says out c → b ≡ c
determined {out = out} one p q = p.is ∙ (ap out (one p.answer q.answer p.says q.says) ∙ sym q.is)

pub report-determined : (t : Table) {x y : ℕ × List ℕ} → Crosses (ReportSays t) report_out x → Crosses (ReportSays t) report_out y → x ≡ y
report-determined t = determined (report-unique t)

pub rows-determined : (m : Masks) {x y : ℕ × List ℕ} → Crosses (RowsSay m) report_out x → Crosses (RowsSay m) report_out y → x ≡ y
rows-determined m = determined (rows-unique m)

-- a precedes mask that was loaded has 32 bits
loaded_precedes : (s : List ℕ) → Bytes s → length s ≡ 9092 → (i : ℕ) → (rule_at (table_from s) i).precedes < 2 ^ 32
loaded_precedes s b size i =
    let h = loaded_held s b size in
    ⊎_elim (λ l. (h.rule i l).precedes)
    (λ l.
    subst (λ (r : Rule). r.precedes < 2 ^ 32)
    (sym (get_or-eq_default (table_from s).rules no_rule {n = i} (subst (λ (n : ℕ). n ≤ i) (sym h.size) l)))
    (omega arith))
    (lt-or_ge i 32)

module _ (s : List ℕ) (b : Bytes s) where
  pub bound-determined : length s ≡ 9092 → (set : ℕ) {x y : ℕ × ℕ} → Crosses (BoundSays (table_from s) set) bound_out x
      → Crosses (BoundSays (table_from s) set) bound_out y → x ≡ y
  bound-determined size set = determined (bound_of_unique (table_from s) (λ i _. loaded_precedes s b size i) set)

  pub lines-determined : (d : List ℕ) {x y : ℕ × ℕ × List ℕ} → Crosses (LinesSay s d) lines_out x → Crosses (LinesSay s d) lines_out y → x ≡ y
  lines-determined d = determined (λ x y. lines-unique s b d)
