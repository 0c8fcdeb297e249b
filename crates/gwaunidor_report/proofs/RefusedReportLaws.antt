-- "A refused report has only zeros beside number and place."
use mathlib.Core.Path.{◌≡◌, refl, ap, ◌∙◌}
use mathlib.Core.List.{List, ◌∷◌}
use Prim.Native.Nat.{ℕ}
use lib.ListN.{replicate}
use Rattle.little.specs.Bytes.{u16_bytes, u32_bytes}
use Rattle.table.specs.Table.{Table}
use Rattle.table.specs.Check.{check_of}
use Rattle.analysis.specs.Says.{ReportSays, refused_report}
use Rattle.layout_report.specs.Layout.{summary_bytes, report_bytes}
use Rattle.gwaunidor_report.specs.ReportOut.{report_out, Crosses}

only_zeros : (number place : ℕ) → report_bytes (refused_report number place) ≡ number ∷ place ∷ replicate 510 0
unfolding report_bytes summary_bytes u16_bytes u32_bytes
only_zeros number place = refl

pub report-refused : (t : Table) {x : ℕ × List ℕ} → Crosses (ReportSays t) report_out x → ((check_of t).number ≡ 0 → ⊥)
    → x.1 ≡ (check_of t).number ∷ (check_of t).place ∷ replicate 510 0
report-refused t x h =
    ap (λ (y : ℕ × List ℕ). y.1) x.is
    ∙ (ap report_bytes (x.says.refused h) ∙ only_zeros (check_of t).number (check_of t).place)
