use mathlib.Core.Path.{◌≡◌, refl, sym, ap, ◌∙◌}
use mathlib.Core.Bool.{Bool, true, false, cond}
use mathlib.Core.List.{List, [], ◌∷◌, ◌++◌}
use Prim.Native.Nat.{ℕ, ◌+◌, ◌*◌}
use native.Mathlib.Omega.{arith}
use Rattle.mask.specs.Mask.{has}
use Rattle.little.specs.Joined.{joined}
use Rattle.little.proofs.JoinedLaws.{joined-more}
use Rattle.report_text.specs.Text.{spaced, members}
use Rattle.report_text.specs.ReportTextInner.{Added}
use Rattle.report_text.proofs.AddedLaws.{added_none, added_as, added_numbers}
use Rattle.report_text.proofs.members.Goals as goal
use Rattle.report_text.proofs.members.Goals.{else-has, then-has}
use Rattle.report_text.proofs.members.Invariants.{below}

next : (m i : ℕ) {d e : List ℕ} → Added (spaced (below m i)) (11 * i) d e → (b : Bool) → has m i ≡ b
    → {f : List ℕ} → Added (spaced (cond b (i ∷ []) [])) 11 e f → Added (spaced (below m (i + 1))) (11 * (i + 1)) d f
next m i h b e g =
    let more = ap (λ (x : Bool). below m i ++ cond x (i ∷ []) []) (sym e) in
    added_as (added_numbers (below m i) (cond b (i ∷ []) []) h g)
    (ap spaced (more ∙ sym (joined-more i (λ x. cond (has m x) (x ∷ []) []))))
    (omega arith)

pub loop-i-init : goal.loop-i-init
unfolding joined spaced
loop-i-init c = (omega arith, added_none c.args.text.now.items)

pub loop-i-preserved : goal.loop-i-preserved
unfolding spaced
loop-i-preserved c =
    let m = c.args.m in
    let at = c.loop-i in
    let told = c.has.ensures in (
      omega arith,
      elim c.if-has.branch [
        | then-has w ↦ rw (w.text-is) (next m at.i at.invariant.1 true (sym told ∙ w.if-has.true) w.number.ensures)
        | else-has w ↦ rw (w.text-is)
            (next m at.i at.invariant.1 false (sym told ∙ w.if-has.false) (added_as (added_none at.text.items) refl (omega arith)))
      ],
    )

pub returns : goal.returns
unfolding members
returns c =
    let at = c.loop-i in
    let e : at.i ≡ 32 = omega arith in
    added_as at.invariant.1 (ap (λ (i : ℕ). spaced (below c.args.m i)) e) (omega arith)
