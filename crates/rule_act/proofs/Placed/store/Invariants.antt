-- The targets passed hold their right sides, and `m` has those that differ: none is passed twice, so each still held what it held.
use Rattle.rule_act.specs.RuleActInner.{slot_rule, Stored}
use Rattle.rule_act.proofs.Placed.store.Given as goal

abbrev pub invariant-loop-j : goal.invariant-loop-j
invariant-loop-j l = Stored (slot_rule l.self.bytes.now l.self.at) l.initial.cells l.j l.cells l.m
