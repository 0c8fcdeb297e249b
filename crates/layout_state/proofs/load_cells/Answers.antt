use borrow.Author.Rules.{rules}
use lib.IntN.{pos}
use Rattle.rule.proofs.FillLaws.{from_fn_filled}
use Rattle.layout_state.specs.States.{cells_from}
use Rattle.layout_state.proofs.StatesLaws.{cell_in}
use Rattle.layout_state.proofs.load_cells.Goals as goal

pub returns : goal.returns
unfolding cells_from
returns c = from_fn_filled _ _ (cell_in c.args.s.now) (λ i x t k. search rules) 32 (pos 0) _ c.from_fn.ensures.items
