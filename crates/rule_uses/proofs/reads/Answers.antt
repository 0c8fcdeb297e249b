-- What the tests read, and what the right sides read.
use mathlib.Core.Path.{◌≡◌, sym, ap₂, ◌∙◌}
use mathlib.Core.Bool.{◌&&◌, ◌||◌, and-or_distrib_left}
use Prim.Native.Nat.{◌+◌, ◌*◌}
use lib.Dec.{ltb}
use Rattle.mask.specs.Search.{some}
use Rattle.mask.specs.Mask.{has}
use Rattle.mask.proofs.BitsLaws.{has-or}
use Rattle.rule.specs.declared.Test.{Test}
use Rattle.rule.specs.declared.Assign.{Assign}
use Rattle.rule.specs.declared.Rule.{Rule}
use Rattle.rule.specs.Empty.{no_test, no_assign}
use Rattle.rule.specs.Uses.{test_at, assign_at, test_reads, side_reads, reads}
use Rattle.rule_read.specs.Parts.{test_in, assign_in, rule_of}
use Rattle.rule_uses.proofs.UsesLaws.{out-filled}
use borrow.Author.Rules.{rules}
use Rattle.rule_uses.proofs.reads.Goals as goal

pub returns : goal.returns
unfolding reads
returns c =
    let s = c.args.s.now in
    let at = c.args.at in
    let t = c.args.t in
    let a = c.args.a in
    λ x m.
    let r : Rule = rule_of s at t a m in
    let l = ltb x 32 in
    let tested = some r.t (λ j. test_reads (test_at r j) x) in
    let sided = some r.a (λ j. side_reads (assign_at r j) x) in
    let tests : has c.united.result x ≡ (l && tested) =
    c.united.ensures (λ j y. ltb y 32 && test_reads (test_in s (at + 12 + 12 * j)) y) (λ j q h k y. search rules) x
    ∙ rw c.count_at-ct.ensures
    (out-filled l r.t no_test (λ j. test_in s (at + 12 + 12 * j)) t (λ (y : Test). test_reads y x) c.requires.1) in
    let sides : has c.united-2.result x ≡ (l && sided) =
    c.united-2.ensures (λ j y. ltb y 32 && side_reads (assign_in s (at + 12 + 12 * t + 20 * j)) y) (λ j q h k y. search rules) x
    ∙ rw c.count_at-ca.ensures
    (out-filled l r.a no_assign (λ j. assign_in s (at + 12 + 12 * t + 20 * j)) a (λ (y : Assign). side_reads y x) c.requires.2) in
    has-or c.united.result c.united-2.result x ∙ ap₂ ◌||◌ tests sides ∙ sym (and-or_distrib_left l tested sided)
