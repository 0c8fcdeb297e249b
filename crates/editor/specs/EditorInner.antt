-- What only contracts of inner functions of `editor` cite.
use Rattle.std.specs.Prelude.{◌≤◌}
use Rattle.analysis_pairs.specs.declared.Masks.{Masks}
use Rattle.analysis_masks.specs.AnalysisMasksInner.{Past}

-- nothing past the last record, where the records are not too many
pub record RestZero (m : Masks) : Type 0 where
  pub watch : m.n ≤ 32 → Past m.n m.watch
  pub reads : m.n ≤ 32 → Past m.n m.reads
  pub writes : m.n ≤ 32 → Past m.n m.writes
  pub precedes : m.n ≤ 32 → Past m.n m.precedes
