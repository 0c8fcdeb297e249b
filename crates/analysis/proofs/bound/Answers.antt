-- The bound asks for two of the four rows.
use Rattle.std.proofs.Common.{rules}
use Rattle.table.specs.Memory.{table_from}
use Rattle.analysis_pairs.specs.AnalysisPairsInner.{triggering}
use Rattle.analysis_masks.specs.Found.{bound_of}
use Rattle.analysis_masks.specs.Bound.{Bounded}
use Rattle.analysis_masks.proofs.BoundLaws.{triggering-orderly, bounded_in}
use Rattle.analysis.specs.TableMasks.{masks_of}
use Rattle.analysis.proofs.TableMasksLaws.{orderly_from}
use Rattle.analysis.proofs.SaysLaws.{sound-bounds}
use Rattle.analysis.proofs.bound.Goals as goal

pub bound-requires : goal.bound-requires
unfolding table_from
bound-requires c =
    let s = c.args.table.now in
    rw (c.from-n.ensures, c.watches.ensures, c.written.ensures)
    (triggering-orderly (masks_of (table_from s)) (orderly_from s (search rules) c.told-table (record { small = c.fits-table })))

pub returns : goal.returns
unfolding table_from
returns c =
    let m = masks_of (table_from c.args.table.now) in
    sound-bounds (search rules)
    (bounded_in m c.args.set (bound_of c.bound.result)
    (rw (c.from-n.ensures, c.watches.ensures, c.written.ensures) at c.bound.ensures))
