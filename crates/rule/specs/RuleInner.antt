-- What only contracts of inner functions of `rule` cite.
use Rattle.std.specs.Prelude.{◌≡◌, ◌≤◌}
use Rattle.rule.specs.declared.Rule.{Rule}

-- the counts of a rule that 5 does not refuse
pub record Counted (r : Rule) : Type 0 where
  pub tests : r.t ≤ 8
  pub assigns : r.a ≤ 8
  pub named : 1 ≤ r.m
  pub letters : r.m ≤ 16
  pub fourth : r.zero ≡ 0
