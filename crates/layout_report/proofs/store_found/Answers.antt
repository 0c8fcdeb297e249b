-- Either way the ten fields are those of the paper's report.
use Rattle.std.proofs.Common.{ap, ◌∙◌, refl}
use Rattle.layout_report.specs.Layout.{report_bytes}
use Rattle.layout_report.specs.LayoutReportInner.{report_with}
use Rattle.layout_report.proofs.store_found.Goals as goal
use Rattle.layout_report.proofs.store_found.Goals.{in-Ok, in-Some, in-None, in-Err}

pub returns : goal.returns
returns c =
    c.store_report.ensures
    ∙ ap report_bytes (elim c.match-r.branch [
      | in-Ok w ↦ elim w.match-v.branch [
        | in-Some x ↦ ap report_with w.report-is ∙ rw (x.first-is, w.in-Ok.is, x.in-Some.is) refl
        | in-None x ↦ ap report_with w.report-is ∙ rw (x.first-is, w.in-Ok.is, x.in-None.is) refl
      ]
      | in-Err w ↦ ap report_with w.report-is ∙ rw (w.in-Err.is, w.number.ensures, w.place.ensures) refl
    ])
