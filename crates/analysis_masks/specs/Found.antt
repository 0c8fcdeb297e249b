-- The paper's report and step bound of what the calls return.
use Rattle.std.specs.Prelude.{List, ℕ, Option, Some, None, Result, Ok, Err}
use Rattle.refusal.specs.declared.Refusal.{Refusal}
use Rattle.refusal.specs.RefusalNumbers.{number_of, place_of}
use Rattle.analysis_marks.specs.declared.Failing.{Failing}
use Rattle.analysis_masks.specs.declared.found.Summary.{Summary}
use Rattle.analysis_masks.specs.declared.found.Findings.{Findings}
use Rattle.analysis_masks.specs.Report.{Report, refused_report}
use Rattle.analysis_masks.specs.Bound.{Bound, refused_bound}

-- "With no failing pair these four are 0."
abbrev pub pair_of : Option Failing → Failing
pair_of None = record { first = 0; second = 0; culprit = 0; other = 0 }
pair_of (Some f) = f

-- the report that is done, of its summary and its marks
abbrev pub report_in : Summary → List ℕ → Report
report_in v marks =
    record {
      number = 0;
      place = 255;
      cleared = v.cleared;
      faulty = v.faulty;
      marks = marks;
      failing = v.failing;
      first = (pair_of v.first).first;
      second = (pair_of v.first).second;
      culprit = (pair_of v.first).culprit;
      other = (pair_of v.first).other;
    }

abbrev pub report_of : Result Findings Refusal → Report
report_of (Ok f) = report_in f.summary f.marks
report_of (Err e) = refused_report (number_of e) (place_of e)

abbrev pub bound_of : Result ℕ Refusal → Bound
bound_of (Ok b) = record { number = 0; place = 255; bound = b }
bound_of (Err e) = refused_bound (number_of e) (place_of e)
