use Rattle.std.proofs.Common.{◌∙◌, ap, sym, arith, Bool, ◌||◌, eqb}
use borrow.Author.Tests.{eqb-true}
use Rattle.mask.proofs.BitsLaws.{has-zero}
use Rattle.mask.proofs.SearchLaws.{and_true_both}
use Rattle.analysis_pairs.proofs.GrowingLaws.{growing_start, growing_turn, growing_le, growing_end}
use Rattle.analysis_pairs.proofs.Relations.grown.Goals as goal

pub loop-next-init : goal.loop-next-init
loop-next-init c =
    growing_start _ _ _ _ _ _ (omega arith) (omega arith)
    (λ k. c.with.ensures k ∙ ap (λ (b : Bool). b || eqb k c.args.i) (has-zero k))
    (λ k. c.with-2.ensures k ∙ ap (λ (b : Bool). b || eqb k c.args.j) (has-zero k))

pub returns-then-eq : goal.returns-then-eq
returns-then-eq c =
    let same = and_true_both _ _ (sym c.eq.ensures ∙ c.if-eq.true) in
    growing_end c.loop-next.invariant _ _ c.grow.ensures c.grow-in-loop-next.ensures (eqb-true _ _ same.0) (eqb-true _ _ same.1)

pub loop-next-smaller : goal.loop-next-smaller
loop-next-smaller c =
    let g = growing_le c.loop-next.invariant _ _ c.grow.ensures c.grow-in-loop-next.ensures (omega arith) (omega arith) in
    grind (arith, c.eq.ensures, c.if-eq.false)

pub loop-next-preserved : goal.loop-next-preserved
loop-next-preserved c =
    growing_turn c.loop-next.invariant _ _ c.grow.ensures c.grow-in-loop-next.ensures (omega arith) (omega arith)
