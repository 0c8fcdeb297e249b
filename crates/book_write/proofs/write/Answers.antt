-- Refused, or too short, the buffer is as it was; else the three writes side by side are the book.
use Rattle.std.proofs.Common.{◌≡◌, ℕ, ◌+◌, ◌*◌, ◌≤◌, List, length, sym, ap, ap₂, ◌∙◌, subst, arith}
use Rattle.std.proofs.lemmas.Result.{err_from_is_err_and}
use Rattle.little.specs.Put.{put}
use Rattle.refusal.specs.Answer.{Answer}
use Rattle.refusal.proofs.RefusalLaws.{not_done}
use Rattle.table.specs.Table.{Table}
use Rattle.table.specs.Check.{check_of}
use Rattle.table.specs.Memory.{table_from}
use Rattle.table.specs.BodyStarts.{start_at}
use Rattle.table.proofs.SoundLaws.{sound-by}
use Rattle.book_parts.specs.BookPartsInner.{Ready, sizes_of, contents_bytes, bodies_bytes}
use Rattle.book_parts.proofs.PartsLaws.{ready, length-bodies}
use Rattle.book_parts.proofs.BodyWriteLaws.{count-from, head-from}
use Rattle.book_write.specs.Book.{book_of}
use Rattle.book_write.specs.Write.{written}
use Rattle.book_write.proofs.BookLaws.{length-book}
use Rattle.book_write.proofs.WriteLaws.{write-refused, write-short, write_done, put-book}
use Rattle.book_write.proofs.write.Goals as goal
use Rattle.book_write.proofs.write.Goals.{After-from-n, After-end_of-size, Else-out-size}

pub returns-in_err-check : goal.returns-in_err-check
returns-in_err-check c =
    let p = err_from_is_err_and c.from_residual.result c.from_residual.ensures.1 in
    let told = c.in_err-check.ensures in
    let t = table_from c.args.table.now in
    let old = c.args.out.now in
    rw (p.1, p.2)
    (sym (write-refused t old (λ z. not_done _ (ap (λ (a : Answer). a.number) told ∙ z)) ∙ ap (λ (a : Answer). (written a.number a.place 0, old)) (sym told)))

-- past the checks: the table, and that it is sound
module _ (c : After-from-n) where
  abbrev T : Table
  T = table_from c.args.table.now

  none : (check_of T).number ≡ 0
  none = ap (λ (a : Answer). a.number) (sym c.in_ok-check.ensures)

  counted : c.from-n.result ≡ T.n
  counted = c.from-n.ensures ∙ count-from c.args.table.now

  rules-ready : Ready c.from-n.result T.rules
  rules-ready = subst (λ (n : ℕ). Ready n T.rules) (sym counted) (ready T (sound-by T none))

pub end_of-size-requires : goal.end_of-size-requires
end_of-size-requires c = (rules-ready c).few

size_is : (c : After-end_of-size) → c.from-n.result ≡ (table_from c.args.table.now).n → c.end_of-size.result ≡ length (book_of (table_from c.args.table.now))
size_is c e =
    let t = table_from c.args.table.now in
    c.end_of-size.ensures ∙ (ap (λ (n : ℕ). start_at n (sizes_of t.rules) n) e ∙ sym (length-book t))

pub returns-then-out-size : goal.returns-then-out-size
returns-then-out-size c =
    let d = goal.at.returns-then-out-size c in
    let n = d.After-from-n in
    let e = size_is d.After-end_of-size (counted n) in
    sym (write-short (T n) c.args.out.now (none n) (omega (arith, c.if-out-size.true, e)))

-- there is room for the bodies
enough : (c : Else-out-size) → 4 + 4 * c.from-n.result + length (bodies_bytes (table_from c.args.table.now).rules c.from-n.result) ≤ length c.args.out.now
enough c = omega (arith, length-bodies c.from-n.result (table_from c.args.table.now).rules c.from-n.result, c.end_of-size.ensures, c.if-out-size.false)

pub put_4-requires : goal.put_4-requires
put_4-requires c = omega (arith, enough (goal.at.put_4-requires c).Else-out-size)

pub write_contents-requires : goal.write_contents-requires
write_contents-requires c =
    let d = goal.at.write_contents-requires c in
    (rules-ready d.After-from-n, omega (arith, enough d.Else-out-size))

pub write_bodies-requires : goal.write_bodies-requires
write_bodies-requires c =
    let d = goal.at.write_bodies-requires c in
    (rules-ready d.After-from-n, omega (arith, enough d.Else-out-size, length-bodies c.from-n.result (T d.After-from-n).rules c.from-n.result))

pub returns : goal.returns
returns c =
    let d = goal.at.returns c in
    let n = d.After-from-n in
    let t = T n in
    let l = c.args.out.now in
    let size = size_is d.After-end_of-size (counted n) in
    let room : length (book_of t) ≤ length l = omega (arith, c.if-out-size.false, size) in
    let whole = put-book t l room
    (c.put_4.ensures ∙ ap (put l 0) (head-from c.args.table.now))
    (c.write_contents.ensures ∙ ap (λ (k : ℕ). put c.put_4.new.out 4 (contents_bytes k t.rules k)) (counted n))
    (c.write_bodies.ensures ∙ ap (λ (k : ℕ). put c.write_contents.new.out (4 + 4 * k) (bodies_bytes t.rules k)) (counted n)) in
    ap₂ (λ (k : ℕ) (x : List ℕ). (written 0 255 k, x)) size whole ∙ sym (write_done t l (none n) room)
