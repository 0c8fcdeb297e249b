-- Of each answer, the code and what is left beside it.
use Rattle.std.specs.Prelude.{◌≡◌, List, ℕ}
use Rattle.analysis_masks.specs.Report.{Report}
use Rattle.analysis_masks.specs.Bound.{Bound}
use Rattle.report_lines.specs.Lines.{Printed}
use Rattle.layout_report.specs.Layout.{report_bytes}
use Rattle.layout_code.specs.Code.{code_of}

abbrev pub report_out : Report → ℕ × List ℕ
report_out r = (code_of r.number r.place, report_bytes r)

abbrev pub bound_out : Bound → ℕ × ℕ
bound_out b = (code_of b.number b.place, b.bound)

abbrev pub lines_out : Printed × List ℕ → ℕ × ℕ × List ℕ
lines_out p = (code_of p.0.number p.0.place, p.0.length, p.1)

-- what is told of an answer that is promised by what holds of it
pub record Crosses {A B : Type 0} (Says : A → Type 0) (out : A → B) (told : B) : Type 0 where
  pub answer : A
  pub says : Says answer
  pub is : told ≡ out answer
