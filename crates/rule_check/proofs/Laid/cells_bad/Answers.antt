-- The masks and the cells, as many as the count bytes say.
use Rattle.rule_check.proofs.Laid.cells_bad.Goals as goal

pub returns : goal.returns
returns c =
    rw (
      c.any_cell_bad-2.ensures,
      c.any_cell_bad.ensures,
      c.mask_beyond-2.ensures,
      c.mask_beyond.ensures,
      c.assigns.ensures,
      c.tests.ensures,
      c.counts_at-counts.ensures.assigns,
      c.counts_at-counts.ensures.tests,
    )
