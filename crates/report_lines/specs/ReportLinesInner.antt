-- What only contracts of inner functions of `report_lines` cite.
use Rattle.std.specs.Prelude.{◌≡◌, List, ℕ, ◌-◌, ◌^◌}
use Rattle.table.specs.Table.{Table}
use Rattle.analysis_masks.specs.Bound.{Bound}
use Rattle.analysis.specs.Says.{ReportSays, BoundSays}
use Rattle.analysis_masks.specs.Found.{report_in}
use Rattle.report_lines.specs.declared.Found.{Found}

-- what is found of a table: a report, all but its marks, and the step bound of all rules
pub record FoundOf (t : Table) (f : Found) : Type 0 where
  pub marks : List ℕ
  pub says : ReportSays t (report_in f.summary marks)
  pub bound : Bound
  pub bounds : BoundSays t (2 ^ t.n - 1) bound
  pub is : f.bound ≡ bound.bound
