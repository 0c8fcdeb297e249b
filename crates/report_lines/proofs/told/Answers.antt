-- The four lines of a book that was read.
use Rattle.std.proofs.Common.{sym, subst, ap, ◌∙◌}
use Rattle.refusal.specs.Answer.{Answer}
use Rattle.refusal.specs.RefusalNumbers.{answer_of}
use Rattle.book_judge.specs.Read.{Reading}
use Rattle.book_judge.proofs.ReadLaws.{read_done}
use Rattle.report_lines.specs.Lines.{FourLines}
use Rattle.report_lines.proofs.told.Goals as goal

pub returns-in-Ok : goal.returns-in-Ok
returns-in-Ok c =
    let z = ap (λ (a : Answer). a.number) (sym c.requires ∙ ap answer_of c.in-Ok.is) in
    record {
      refused = λ ne. absurd (ne z);
      done = λ _. subst (λ (r : Reading). FourLines r.table c.four.result.items) (sym (read_done c.args.book.now z).reading) c.four.ensures;
    }
