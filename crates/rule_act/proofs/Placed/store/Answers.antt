use Rattle.std.proofs.Common.{◌≡◌, ℕ, ◌<◌, take, get_or, length-take, rules, arith, ap, ◌∙◌, ℤ, pos, w64, SFits}
use mathlib.Core.Path.{subst₂}
use Rattle.std.proofs.lemmas.Int.{to_z-of_z}
use Rattle.std.proofs.lemmas.List.{get_or-take}
use Rattle.rule.specs.declared.Assign.{Assign}
use Rattle.rule.specs.Uses.{assign_at}
use Rattle.rule_act.specs.RuleActInner.{slot_rule, Put}
use Rattle.rule_act.proofs.ActSlotLaws.{stored-none, stored_one}
use Rattle.rule_act.proofs.Placed.store.Goals as goal
use Rattle.rule_act.proofs.Placed.store.Goals.{After-from}

pub loop-j-init : goal.loop-j-init
loop-j-init c = stored-none (slot_rule c.args.self.now.bytes.now c.args.self.now.at) c.args.cells.now

-- assignment j is one of the rule's, and the cell is its target
module _ (c : After-from) where
  counted : c.loop-j.j < (slot_rule c.args.self.now.bytes.now c.args.self.now.at).a
  counted = omega (arith, length-take {A = ℤ})

  target : c.from.result ≡ (assign_at (slot_rule c.args.self.now.bytes.now c.args.self.now.at) c.loop-j.j).target
  target = c.from.ensures ∙ ap (λ (x : Assign). x.target) c.assign.ensures

pub put-m-requires : goal.put-m-requires
put-m-requires c = rw (target c) (c.args.self.now.slot.ready.targets c.loop-j.j (counted c))

pub loop-j-preserved : goal.loop-j-preserved
loop-j-preserved c =
    let l = c.loop-j in
    let at = (goal.at.loop-j-preserved c).After-from in
    let v = get_or (take c.from-n.result c.args.values.now) l.j (pos 0) in
    let f : SFits w64 v = search rules in
    let e =
    to_z-of_z w64 v f
    ∙ (get_or-take c.from-n.result c.args.values.now l.j (pos 0) (omega (arith, counted at)) ∙ c.requires.each l.j (counted at)) in
    stored_one (slot_rule c.args.self.now.bytes.now c.args.self.now.at) c.args.cells.now (omega arith) c.args.self.now.slot.ready l.j
    (counted at) l.cells _ l.m _ (omega arith) l.invariant
    (subst₂ (λ (x : ℕ) (z : ℤ). Put l.cells x z l.m c.put-m.new.cells c.put-m.result) (target at) e c.put-m.ensures)
