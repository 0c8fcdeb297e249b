-- What only contracts of inner functions of `analysis_masks` cite.
use Rattle.std.specs.Prelude.{◌≡◌, List, ℕ, ◌≤◌, get_or}
use Rattle.graph.specs.GraphInner.{Rows}
use Rattle.analysis_pairs.specs.declared.Masks.{Masks}

-- every mask from n up is 0
abbrev pub Past : ℕ → List ℕ → Type 0
Past n row = (r : ℕ) → n ≤ r → get_or row r 0 ≡ 0

-- what the report asks of the masks: at most 32 rules, no precedes bit beyond them, nothing past the last rule
pub record Orderly (m : Masks) : Type 0 where
  pub few : m.n ≤ 32
  pub named : Rows m.n m.precedes
  pub watch : Past m.n m.watch
  pub reads : Past m.n m.reads
  pub writes : Past m.n m.writes
  pub precedes : Past m.n m.precedes
