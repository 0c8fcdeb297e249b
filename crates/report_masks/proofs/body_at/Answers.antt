-- The body lies in the book, since it was read.
use Rattle.std.proofs.Common.{arith, refl}
use Rattle.report_masks.proofs.BodyMasksLaws.{has_entry, body_at}
use Rattle.report_masks.proofs.body_at.Goals as goal

pub start-at-requires : goal.start-at-requires
start-at-requires c = has_entry c.args.book.now c.args.i c.requires

pub counts_at-requires : goal.counts_at-requires
counts_at-requires c = omega (arith, (body_at c.args.book.now c.args.i c.requires c.start-at.result _ _ c.start-at.ensures.0 refl refl).room.inside)

pub returns : goal.returns
returns c = body_at c.args.book.now c.args.i c.requires _ _ _ c.start-at.ensures.0 c.counts_at.ensures.tests c.counts_at.ensures.assigns
