use Rattle.std.proofs.Common.{rules, ⊎_elim, ◌∙◌, sym, ap, ℕ}
use lib.ListN.{get_or-eq_default}
use Rattle.mask.specs.Mask.{has}
use Rattle.mask.proofs.BitsLaws.{has-zero}
use Rattle.mask.proofs.SearchLaws.{lt-or_ge}
use Rattle.graph.proofs.loops.Goals as goal

pub returns : goal.returns
returns c r =
    ⊎_elim (λ l. let h = c.such.ensures.below r l in search rules)
    (λ l. c.such.ensures.beyond r l ∙ sym (ap (λ (v : ℕ). has v r) (get_or-eq_default c.args.rows 0 {n = r} (search rules)) ∙ has-zero r))
    (lt-or_ge r 32)
