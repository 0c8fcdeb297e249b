-- What only contracts of inner functions of `layout_report` cite.
use Rattle.analysis_masks.specs.Report.{Report}
use Rattle.layout_report.specs.declared.Report as Lent

-- the paper's report of one whose marks are lent
abbrev pub report_with : Lent.Report → Report
report_with r =
    record {
      number = r.number;
      place = r.place;
      cleared = r.cleared;
      faulty = r.faulty;
      marks = r.marks.now;
      failing = r.failing;
      first = r.first;
      second = r.second;
      culprit = r.culprit;
      other = r.other;
    }
