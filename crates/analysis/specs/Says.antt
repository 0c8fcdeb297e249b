-- What the two calls on a table promise.
use Rattle.std.specs.Prelude.{ℕ}
use Rattle.table.specs.Table.{Table}
use Rattle.table.specs.Check.{check_of, Checked}
pub use Rattle.analysis_masks.specs.Report.{Report, Reported, refused_report}
pub use Rattle.analysis_masks.specs.Bound.{Bound, Bounded, refused_bound}
use Rattle.analysis.specs.TableMasks.{masks_of}

-- "a call on a table in memory first makes the writer's checks, all but 18"; then the report of its masks
abbrev pub ReportSays : Table → Report → Type 0
ReportSays t = Checked (check_of t) refused_report (Reported (masks_of t))

-- the same for the step bound: 11, 17, or the sum of the weights
abbrev pub BoundSays : Table → ℕ → Bound → Type 0
BoundSays t set = Checked (check_of t) refused_bound (Bounded (masks_of t) set)
