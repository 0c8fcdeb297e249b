-- After the checks the bodies' end is the length.
use Rattle.std.proofs.Common.{◌≡◌, ℕ, sym, ap, ◌∙◌, arith}
use Rattle.std.proofs.lemmas.Result.{err_from_is_err_and}
use Rattle.refusal.specs.Answer.{Answer}
use Rattle.table.specs.Table.{Table}
use Rattle.table.specs.Check.{check_of}
use Rattle.table.specs.Memory.{table_from}
use Rattle.table.specs.BodyStarts.{start_at}
use Rattle.table.proofs.SoundLaws.{sound-by}
use Rattle.book_parts.specs.BookPartsInner.{sizes_of}
use Rattle.book_parts.proofs.PartsLaws.{ready}
use Rattle.book_parts.proofs.BodyWriteLaws.{count-from}
use Rattle.book_write.specs.Write.{written}
use Rattle.book_write.proofs.BookLaws.{length-book}
use Rattle.book_write.proofs.WriteLaws.{size_told, size-done}
use Rattle.book_write.proofs.size.Goals as goal
use Rattle.book_write.proofs.size.Goals.{After-from}

pub returns-in_err-check : goal.returns-in_err-check
returns-in_err-check c =
    let p = err_from_is_err_and c.from_residual.result c.from_residual.ensures.1 in
    rw (p.1, p.2) (size_told (table_from c.args.table.now) _ c.in_err-check.ensures)

module _ (c : After-from) where
  abbrev T : Table
  T = table_from c.args.table.now

  none : (check_of T).number ≡ 0
  none = ap (λ (a : Answer). a.number) (sym c.in_ok-check.ensures)

  counted : c.from.result ≡ T.n
  counted = c.from.ensures ∙ count-from c.args.table.now

pub end_of-requires : goal.end_of-requires
end_of-requires c = omega (arith, counted c, (ready (T c) (sound-by (T c) (none c))).few)

pub returns : goal.returns
returns c =
    let d = (goal.at.returns c).After-from in
    ap (written 0 255)
    (c.end_of.ensures ∙ (ap (λ (n : ℕ). start_at n (sizes_of (T d).rules) n) (counted d) ∙ sym (length-book (T d))))
    ∙ sym (size-done (T d) (none d))
