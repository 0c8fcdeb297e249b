-- The length has 32 bits.
use Rattle.std.proofs.Common.{List, ℕ, ap, arith}
use Rattle.table.specs.Memory.{table_from}
use Rattle.book_write.specs.Write.{Written}
use Rattle.book_write.proofs.WriteLaws.{write-largest, length_is}
use Rattle.gwaunidor_book.proofs.write.Goals as goal

pub overflow_cast-written : goal.overflow_cast-written
overflow_cast-written c =
    let a = c.args in
    let e = ap (λ (w : Written × List ℕ). w.0.length) c.write-w.ensures in
    record { fits = omega (arith, c.unwrap_or.ensures, length_is c.write-w.result, e, write-largest (table_from a.table.now) a.out.now) }
