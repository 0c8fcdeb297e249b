-- The bytes, and the zeros where they end.
use Rattle.std.proofs.Common.{◌+◌, ◌-◌, length, replicate, arith}
use Rattle.little.proofs.PutLaws.{put_next}
use Rattle.book_read.proofs.put_padded.Goals as goal

pub returns : goal.returns
returns c =
    let a = c.args in
    let n = length a.bytes.now in
    put_next a.out.now a.to a.bytes.now c.put_bytes.ensures (omega arith) (a.to + n) (omega arith) (replicate (a.room - n) 0) c.put_zeros.ensures
