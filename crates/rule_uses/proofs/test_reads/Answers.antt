-- The left cell, and the right cell where the kind is 1.
use Rattle.std.proofs.Common.{◌≡◌, Bool, true, false, ◌&&◌, ◌||◌, eqb, ltb, refl, ap₂, ◌∙◌, rules, tests}
use Rattle.mask.proofs.BitsLaws.{has-or}
use Rattle.rule_uses.proofs.test_reads.Goals as goal

-- what both sets have below 32
out : (l a k b : Bool) → ((l && a) || (k && (l && b))) ≡ (l && (a || (k && b)))
out true a k b = refl
out false a true b = refl
out false a false b = refl

pub returns : goal.returns
returns c =
    let t = c.args.t in
    let kind : c.eq.result ≡ eqb t.kind 1 = search (rules, tests) in
    λ x.
    has-or c.cell.result c.kept.result x
    ∙ (ap₂ ◌||◌ (c.cell.ensures x) (c.kept.ensures x ∙ ap₂ ◌&&◌ kind (c.cell-2.ensures x))
    ∙ out (ltb x 32) (eqb x t.left) (eqb t.kind 1) (eqb x t.right))
