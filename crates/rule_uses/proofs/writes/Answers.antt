-- The targets, as many as the count byte says, and none of them is 32 or more.
use mathlib.Core.Path.{◌∙◌}
use mathlib.Core.Bool.{◌&&◌}
use Prim.Native.Nat.{◌+◌, ◌*◌}
use lib.Dec.{eqb, ltb}
use Rattle.little.specs.Little.{byte_at}
use Rattle.rule.specs.declared.Assign.{Assign}
use Rattle.rule.specs.Empty.{no_assign}
use Rattle.rule.specs.Uses.{writes}
use Rattle.rule_read.specs.Parts.{assign_in}
use Rattle.rule_uses.proofs.UsesLaws.{out-filled}
use borrow.Author.Rules.{rules}
use Rattle.rule_uses.proofs.writes.Goals as goal

pub returns : goal.returns
unfolding writes
returns c =
    let s = c.args.s.now in
    let at = c.args.at in
    λ x m.
    c.united.ensures (λ j y. ltb y 32 && eqb y (byte_at s (at + 12 + 12 * c.args.t + 20 * j))) (λ j q h k y. search rules) x
    ∙ rw c.count_at-ca.ensures
    (out-filled (ltb x 32) (byte_at s (at + 9)) no_assign (λ j. assign_in s (at + 12 + 12 * c.args.t + 20 * j)) c.args.a
    (λ (y : Assign). eqb x y.target)
    c.requires.1)
