-- What only contracts of inner functions of `book_parts` cite.
use Rattle.std.specs.Prelude.{List, ◌++◌, ℕ, ◌≤◌, ◌<◌, get_or}
use Rattle.little.specs.Bytes.{u16_bytes}
use Rattle.little.specs.Joined.{joined}
use Rattle.rule.specs.declared.Rule.{Rule}
use Rattle.rule.specs.Empty.{no_rule}
use Rattle.rule.specs.RuleInner.{Counted}
use Rattle.rule_write.specs.Pieces.{body_bytes}
use Rattle.table.specs.BodyStarts.{body_size, start_at}

-- what the writer asks of n rules: few, and each with counts that 5 does not refuse
pub record Ready (n : ℕ) (rules : List Rule) : Type 0 where
  pub few : n ≤ 32
  pub counts : (i : ℕ) → i < n → Counted (get_or rules i no_rule)

-- how long the body of rule i is
abbrev pub sizes_of : List Rule → ℕ → ℕ
sizes_of rules i = body_size (get_or rules i no_rule)

-- entry i of the contents of n rules, the first i entries, and the bodies of the first i rules
abbrev pub entry_bytes : ℕ → List Rule → ℕ → List ℕ
entry_bytes n rules i = u16_bytes (start_at n (sizes_of rules) i) ++ u16_bytes (sizes_of rules i)

abbrev pub contents_bytes : ℕ → List Rule → ℕ → List ℕ
contents_bytes n rules i = joined i (entry_bytes n rules)

abbrev pub bodies_bytes : List Rule → ℕ → List ℕ
bodies_bytes rules i = joined i (λ j. body_bytes (get_or rules j no_rule))
