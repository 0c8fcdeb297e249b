-- The beginnings of the slot's three parts, one where the other ends, are the body.
use mathlib.Core.Path.{◌∙◌}
use Prim.Native.Nat.{◌+◌, ◌*◌}
use native.Mathlib.Omega.{arith}
use Rattle.little.specs.EachByte.{Bytes}
use Rattle.book_parts.proofs.BodyWriteLaws.{put-body}
use Rattle.book_parts.proofs.write_body.Goals as goal

pub returns : goal.returns
returns c =
    let r = c.counts_at-c.result in
    let n = c.counts_at-c.ensures in
    let b : Bytes c.args.table.now = record { small = c.fits-table } in
    let counts = c.requires.0 in
    put-body c.args.table.now b (4 + 284 * c.args.i) (omega arith) r.tests r.assigns r.letters
    (omega (arith, n.tests, counts.tests)) (omega (arith, n.assigns, counts.assigns)) (omega (arith, n.letters, counts.letters))
    c.args.out.now c.args.at (omega (arith, n.tests, n.assigns, n.letters))
    c.put_part.ensures c.put_part-2.ensures c.put_part-3.ensures
    ∙ rw (n.tests, n.assigns, n.letters)
