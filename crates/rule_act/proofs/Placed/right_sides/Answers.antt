use Rattle.std.proofs.Common.{◌≡◌, length, rules, arith, ap, sym, ◌∙◌, pos, true, false, w64, length-set, SFits}
use Rattle.std.proofs.Math.Seq.{take-append_seam}
use Rattle.std.proofs.lemmas.Int.{to_z-of_z}
use Rattle.std.proofs.lemmas.Iterator.{YieldsList-from_slice}
use Rattle.std.proofs.lemmas.Iterator.Consumers.{YieldsList-from_copied}
use Rattle.std.specs.Slice.Iter.{iter_rest}
use Rattle.mask.proofs.AnyLaws.{some_of_any_in}
use Rattle.mask.specs.Search.{some}
use Rattle.rule.specs.declared.Assign.{Assign}
use Rattle.rule.specs.Numbers.{out_of_range}
use Rattle.rule_sums.specs.Sums.{at, value_of}
use Rattle.rule_act.specs.RuleActInner.{slot_rule}
use Rattle.rule_act.proofs.ActSlotLaws.{sides-more, sides-all}
use Rattle.rule_act.proofs.Placed.right_sides.Goals as goal
use Rattle.rule_act.proofs.Placed.right_sides.Goals.{After-any}

pub worked-requires : goal.worked-requires
worked-requires c = (rw c.assign.ensures (c.args.self.now.slot.ready.bounded c.loop-j.j (omega arith)), c.requires)

pub loop-j-preserved : goal.loop-j-preserved
loop-j-preserved c =
    let f : SFits w64 c.worked.result = search rules in
    let e = to_z-of_z w64 c.worked.result f ∙ (c.worked.ensures ∙ ap (λ (x : Assign). value_of x c.args.cells.now) c.assign.ensures) in (
      simp length-set c.loop-j.invariant.0,
      sides-more (slot_rule c.args.self.now.bytes.now c.args.self.now.at) c.args.cells.now c.loop-j.j c.loop-j.v-items _ (omega arith) e
          c.loop-j.invariant.1,
    )

-- what `any` answers of the right sides in the row
bad : (c : After-any) → c.any.result ≡ some (length c.loop-j.v-items) (λ j. out_of_range (at c.loop-j.v-items j))
bad c =
    let n : c.from-n.result ≡ length c.loop-j.v-items = sym c.loop-j.invariant.0 in
    some_of_any_in (pos 0) out_of_range _ _ c.any.result c.any.ensures.ran
    (YieldsList-from_copied
    (YieldsList-from_slice c.loop-j.v-items (ap iter_rest c.copied.ensures.source ∙ (c.iter.ensures.rest ∙ rw (n, take-append_seam)))))
    (λ x b q k. search rules)

pub returns : goal.returns
returns c =
    let l = c.loop-j in
    sides-all (slot_rule c.args.self.now.bytes.now c.args.self.now.at) c.args.cells.now l.j l.v-items _ false (omega arith) (omega arith)
    l.invariant.1 (sym c.if-any.false ∙ bad (goal.at.returns c).After-any)

pub returns-then-any : goal.returns-then-any
returns-then-any c =
    let l = c.loop-j in
    sides-all (slot_rule c.args.self.now.bytes.now c.args.self.now.at) c.args.cells.now l.j l.v-items _ true (omega arith) (omega arith)
    l.invariant.1 (sym c.if-any.true ∙ bad (goal.at.returns-then-any c).After-any)
