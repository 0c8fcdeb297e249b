-- A refused read leaves zeros, which are the bytes of an empty table; a done one leaves its table's.
use Rattle.std.proofs.Common.{◌≡◌, replicate, sym, ap, ◌∙◌, rules}
use Rattle.refusal.specs.Answer.{Answer}
use Rattle.refusal.proofs.RefusalLaws.{not_done}
use Rattle.table.specs.Memory.{table_bytes}
use Rattle.table.proofs.ZerosLaws.{empty-zeros}
use Rattle.book_judge.specs.Read.{Reading, read_of}
use Rattle.book_judge.proofs.ReadLaws.{Taken, read_done}
use Rattle.book_judge.proofs.AnswerLaws.{refused-empty, bodies}
use Rattle.book_read.proofs.read.Goals as goal
use Rattle.book_read.proofs.read.Goals.{In-Ok}

-- where the book is not refused the read is done
done : (c : In-Ok) → Taken c.args.book.now
done c = read_done c.args.book.now (ap (λ (x : Answer). x.number) (sym c.in-Ok.ensures))

pub spread-requires : goal.spread-requires
spread-requires c = bodies _ (done (goal.at.spread-requires c).In-Ok)

pub returns-in-Ok : goal.returns-in-Ok
returns-in-Ok c =
    record {
      answered = c.judge-read.ensures;
      written = c.spread.ensures ∙ ap (λ (r : Reading). table_bytes r.table) (sym (done (goal.at.returns-in-Ok c).In-Ok).reading);
    }

pub returns-in-Err : goal.returns-in-Err
returns-in-Err c =
    let zeros : c.fill.new.self ≡ replicate 9092 0 = c.fill.ensures.after (λ y k. search rules) ∙ ap (λ k. replicate k 0) c.told-table in
    let ne : (read_of c.args.book.now).number ≡ 0 → ⊥ = λ z. not_done c.in-Err.field-0 (ap (λ (x : Answer). x.number) c.in-Err.ensures ∙ z) in
    record { answered = c.judge-read.ensures; written = zeros ∙ sym (ap table_bytes (refused-empty c.args.book.now ne) ∙ empty-zeros) }
