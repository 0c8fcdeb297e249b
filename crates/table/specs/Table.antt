-- A table in memory: its rules, and who goes before whom.
use Rattle.std.specs.Prelude.{Bool, List, ℕ, get_or, replicate}
use Rattle.graph.specs.Graph.{Leads, leads}
use Rattle.rule.specs.declared.Rule.{Rule}
use Rattle.rule.specs.Fill.{filled}
use Rattle.rule.specs.Empty.{no_rule}

-- n rules, k cells, and 32 rule slots. In code a table is its bytes: `table_from` of Memory ties the two.
pub record Table : Type 0 where
  pub n : ℕ
  pub k : ℕ
  pub rules : List Rule

-- "an empty table of zeros"
abbrev pub no_table : Table
no_table = record { n = 0; k = 0; rules = replicate 32 no_rule }

-- rule i of a table
abbrev pub rule_at : Table → ℕ → Rule
rule_at t i = get_or t.rules i no_rule

-- the row of the rules' precedes masks
abbrev pub precedes_of : Table → List ℕ
precedes_of t = filled 32 0 (λ i. (rule_at t i).precedes) t.n

-- "r goes before s when r's precedes mask names s, directly or through others"
abbrev pub GoesBefore : Table → ℕ → ℕ → Type 0
GoesBefore t r s = Leads (precedes_of t) r s

-- whether it does, through rules of the table
unfoldable pub goes_before : Table → ℕ → ℕ → Bool
goes_before t r s = leads (precedes_of t) t.n r s
