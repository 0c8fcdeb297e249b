-- Each mark adds one where it is 2; no count is more than the marks passed.
use Rattle.std.proofs.Common.{◌≡◌, ℕ, ◌+◌, Bool, true, false, refl, sym, ap, ◌∙◌, arith, rules}
use native.Mathlib.Nat.{add-zero}
use borrow.Author.Tests.{eq-eqb, ne_eqb}
use Rattle.mask.specs.Search.{count}
use Rattle.mask.proofs.SearchLaws.{one_if, count-max}
use Rattle.mask.proofs.CountsLaws.{count-more}
use Rattle.analysis_marks.specs.Marks.{fails_at}
use Rattle.analysis_marks.proofs.count_failing.Goals as goal
use Rattle.analysis_marks.proofs.count_failing.Goals.{else-m-eq2, then-m-eq2}

-- one mark further
turn : (f : ℕ → Bool) (k c : ℕ) (b : Bool) → f k ≡ b → c ≡ count k f → c + one_if b ≡ count (k + 1) f
turn f k c b e q = ap (λ (x : ℕ). x + one_if b) q ∙ sym (count-more k f ∙ ap (λ (x : Bool). count k f + one_if x) e)

pub loop-m-init : goal.loop-m-init
unfolding count
loop-m-init c = refl

pub overflow_add-failing : goal.overflow_add-failing
overflow_add-failing c =
    let at = c.loop-m in
    omega (arith, at.invariant, count-max at.m-index (fails_at c.args.q.now))

pub loop-m-preserved : goal.loop-m-preserved
loop-m-preserved c =
    let at = c.loop-m in
    let go = turn (fails_at c.args.q.now) at.m-index at.failing in
    elim c.if-m-eq2.branch [
      | then-m-eq2 w ↦ w.failing-is ∙ go true (eq-eqb _ _ w.if-m-eq2.true) at.invariant
      | else-m-eq2 w ↦ w.failing-is ∙ sym (add-zero _) ∙ go false (ne_eqb _ _ w.if-m-eq2.false) at.invariant
    ]

pub returns : goal.returns
returns c = c.loop-m.invariant ∙ ap (λ (k : ℕ). count k (fails_at c.args.q.now)) (search rules)
