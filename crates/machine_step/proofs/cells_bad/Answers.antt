use Rattle.std.proofs.Common.{ℕ, ltb, cond, rules, arith, ap, ◌∙◌, pos}
use Rattle.std.specs.Slice.Iter.{iter_rest}
use Rattle.mask.specs.Search.{some}
use Rattle.mask.proofs.AnyLaws.{some_of_any-places}
use Rattle.rule.specs.Numbers.{not_zero_z, out_of_range}
use Rattle.machine_spec.specs.State.{cell_bad}
use Rattle.machine_step.proofs.cells_bad.Goals as goal

pub returns : goal.returns
returns c =
    let cells = c.args.cells.now in
    some_of_any-places cells (pos 0) (λ j z. cond (ltb j c.args.k) (out_of_range z) (not_zero_z z)) _ _ c.any.result
    (ap iter_rest c.enumerate.ensures.source ∙ c.iter.ensures.rest) c.enumerate.ensures.count c.any.ensures.ran (λ x b q k. search rules)
    ∙ ap (λ (n : ℕ). some n (cell_bad c.args.k cells)) (omega arith)
