-- The book's masks are orderly; the mask of the numbers below n is the set of all rules.
use Rattle.std.proofs.Common.{◌≡◌, refl, sym, ap, ◌∙◌, subst, ℕ, ◌-◌, ◌^◌, ltb, arith}
use Rattle.little.specs.EachByte.{Bytes}
use Rattle.analysis_pairs.specs.declared.Masks.{Masks}
use Rattle.analysis_masks.specs.AnalysisMasksInner.{Orderly}
use Rattle.analysis_masks.specs.Found.{report_in, bound_of}
use Rattle.analysis_masks.specs.Report.{Reported}
use Rattle.analysis_masks.specs.Bound.{Bounded}
use Rattle.analysis_marks.specs.AnalysisMarksInner.{no_marks}
use Rattle.analysis_masks.proofs.BoundLaws.{triggering-orderly, bounded_in}
use Rattle.analysis.specs.Says.{BoundSays}
use Rattle.analysis.proofs.SaysLaws.{sound_reports, sound-bounds}
use Rattle.book_judge.specs.Read.{table_in}
use Rattle.book_judge.specs.BookJudgeInner.{n_of}
use Rattle.book_judge.proofs.ReadLaws.{read_done}
use Rattle.report_lines.proofs.LinesLaws.{all-rules, bound-or-none}
use Rattle.report_masks.proofs.BodyMasksLaws.{few-rules, body-orderly}
use Rattle.report_lines.proofs.judged.Goals as goal
use Rattle.report_lines.proofs.judged.Goals.{After-taken-masks}

orderly : (c : After-taken-masks) → Orderly c.taken-masks.result
orderly c =
    let bytes : Bytes c.args.book.now = record { small = λ j. omega (arith, c.type_inv.book j) } in
    subst Orderly (sym c.taken-masks.ensures) (body-orderly c.args.book.now bytes c.requires)

pub below-all-requires : goal.below-all-requires
below-all-requires c = (orderly c).few

pub judged-requires : goal.judged-requires
unfolding no_marks
judged-requires c = (orderly (goal.at.judged-requires c).After-taken-masks, refl)

pub bound-requires : goal.bound-requires
bound-requires c = triggering-orderly c.taken-masks.result (orderly (goal.at.bound-requires c).After-taken-masks)

pub returns : goal.returns
unfolding table_in
returns c =
    let s = c.args.book.now in
    let m = c.taken-masks.result in
    let e = c.taken-masks.ensures in
    let set = c.below-all.result in
    let b = bound_of c.bound.result in
    let sound = (read_done s c.requires).sound in
    let n : m.n ≡ n_of s = ap (λ (m : Masks). m.n) e in
    let whole : set ≡ 2 ^ n_of s - 1 =
    all-rules (n_of s) set (few-rules s c.requires) (omega (arith, c.below-all.type_inv)) (λ k. c.below-all.ensures k ∙ ap (ltb k) n) in
    record {
      marks = c.judged.new.marks;
      says = sound_reports sound (subst (λ (m : Masks). Reported m (report_in c.judged.result c.judged.new.marks)) e c.judged.ensures);
      bound = b;
      bounds = subst (λ (x : ℕ). BoundSays (table_in s) x b) whole
          (sound-bounds sound (subst (λ (m : Masks). Bounded m set b) e (bounded_in m set b c.bound.ensures)));
      is = c.unwrap_or.ensures ∙ bound-or-none c.bound.result;
    }
