-- The lines one after another.
use native.Mathlib.Omega.{arith}
use Rattle.analysis_masks.specs.Found.{report_in}
use Rattle.book_judge.specs.Read.{table_in}
use Rattle.report_lines.specs.FourLines.{four_lines, pairs_line}
use Rattle.report_text.proofs.AddedLaws.{added_on, added_first}
use Rattle.report_masks.proofs.BodyMasksLaws.{in_book}
use Rattle.report_lines.proofs.four.Goals as goal

pub returns : goal.returns
unfolding four_lines pairs_line table_in
returns c =
    let f = c.judged-found.ensures in
    let three = added_on (added_on c.numbered.ensures c.ends_line.ensures) c.pairs_line.ensures in
    record {
      report = report_in c.judged-found.result.summary f.marks;
      says = f.says;
      bound = f.bound;
      bounds = f.bounds;
      is = rw (← f.is) (added_first (added_on three c.cleared_line.ensures) c.new-text.ensures);
    }

pub bounds-book-1 : goal.bounds-book-1
bounds-book-1 c = omega (arith, (in_book c.args.book.now c.requires).inside.contents)

pub bounds-book-2 : goal.bounds-book-2
bounds-book-2 c = omega (arith, (in_book c.args.book.now c.requires).inside.contents)
