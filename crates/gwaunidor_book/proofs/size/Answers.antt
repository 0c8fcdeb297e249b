-- The size has 32 bits.
use Rattle.std.proofs.Common.{ap, arith}
use Rattle.table.specs.Memory.{table_from}
use Rattle.book_write.specs.Write.{Written}
use Rattle.book_write.proofs.WriteLaws.{size-largest, length_is}
use Rattle.gwaunidor_book.proofs.size.Goals as goal

pub overflow_cast-size : goal.overflow_cast-size
overflow_cast-size c =
    let e = ap (λ (w : Written). w.length) c.size-sized.ensures in
    record { fits = omega (arith, c.unwrap_or.ensures, length_is c.size-sized.result, e, size-largest (table_from c.args.table.now)) }
