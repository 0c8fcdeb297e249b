-- The right sides passed are in the row.
use Rattle.std.proofs.Common.{◌≡◌, length}
use Rattle.rule_act.specs.RuleActInner.{slot_rule, SidesSoFar}
use Rattle.rule_act.proofs.Placed.right_sides.Given as goal

abbrev pub invariant-loop-j : goal.invariant-loop-j
invariant-loop-j l = (length l.v-items ≡ l.n) × SidesSoFar (slot_rule l.self.bytes.now l.self.at) l.cells l.j l.v-items
