use Rattle.std.proofs.Common.{◌≡◌, ℕ, Bool, true, false, cond, ◌&&◌, ◌||◌, get_or, arith, sym, ap, ◌∙◌, refl, bit_or}
use mathlib.Core.Bool.{or-false}
use Rattle.mask.specs.Mask.{has}
use Rattle.mask.proofs.BitsLaws.{has-or, has-zero}
use Rattle.mask.proofs.LoopsLaws.{upto-none, upto-store, upto_all}
use Rattle.graph.proofs.through.Goals as goal
use Rattle.graph.proofs.through.Goals.{then-has, else-has}

-- a mask v that was u, with k's mask where it has k
joined : (k row u v : ℕ) → v ≡ u → (b : Bool) → b ≡ has v k → (more : ℕ) → more ≡ cond b row 0 → (s : ℕ)
    → has (bit_or v more) s ≡ (has u s || (has u k && has row s))
joined k row u v e true h more m s = rw (← e, ← h, m) (has-or v row s)
joined k row u v e false h more m s = rw (← e, ← h, m) (has-or v 0 s ∙ ap (λ (b : Bool). has v s || b) (has-zero s))

-- a mask without k stays
stays : (k row v : ℕ) → has v k ≡ false → (s : ℕ) → has v s ≡ (has v s || (has v k && has row s))
stays k row v h s = rw h (sym (or-false (has v s)))

pub loop-m-preserved : goal.loop-m-preserved
loop-m-preserved c =
    let at = c.loop-m in
    let k = c.args.k in
    let p = c.args.q.now in
    let go = joined k (get_or p k 0) (get_or p at.m-index 0) (get_or at.q at.m-index 0) (at.invariant.rest _ (omega arith)) in
    upto-store _ _ _ _ _ (omega arith) at.invariant
    (elim c.if-has.branch [
      | then-has w ↦ go true (sym w.if-has.true ∙ c.has.ensures) _ w.more-is
      | else-has w ↦ go false (sym w.if-has.false ∙ c.has.ensures) _ w.more-is
    ])

pub returns : goal.returns
returns c =
    let p = c.args.q.now in
    let k = c.args.k in
    record {
      size = c.loop-m.invariant.len;
      masks = upto_all _ _ _ _ c.loop-m.invariant (omega arith) (λ x l z. stays k (get_or p k 0) (get_or p x 0) (ap (λ (v : ℕ). has v k) z ∙ has-zero k));
    }
