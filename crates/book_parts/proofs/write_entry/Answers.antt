-- Two numbers side by side: two writes are one.
use Rattle.std.proofs.Common.{◌+◌, ◌*◌, arith}
use Rattle.little.proofs.PutLaws.{put_next}
use Rattle.little.specs.Bytes.{u16_bytes}
use Rattle.little.proofs.BytesLaws.{length_u16}
use Rattle.book_parts.proofs.write_entry.Goals as goal

pub returns : goal.returns
returns c =
    let a = c.args in
    let e = length_u16 a.start in
    put_next a.out.now (4 + 4 * a.i) (u16_bytes a.start) c.put.ensures (omega arith) (6 + 4 * a.i) (omega arith) (u16_bytes a.size) c.put-2.ensures
