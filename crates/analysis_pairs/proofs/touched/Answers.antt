use Rattle.std.proofs.Common.{rules}
use Rattle.analysis_pairs.proofs.touched.Goals as goal

pub returns : goal.returns
returns c r l = let h = c.row.ensures.below r l in search rules
