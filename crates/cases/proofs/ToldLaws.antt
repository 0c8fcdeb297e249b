-- From rules that are written out to a book that has them: its step bounds, and what is printed for it.
use mathlib.Core.Path.{◌≡◌, refl, ap₂, ◌∙◌, subst}
use mathlib.Core.Bool.{true, false}
use mathlib.Core.List.{List, []}
use Prim.Native.Nat.{ℕ, ◌-◌, ◌^◌}
use lib.Dec.{eqb}
use borrow.Author.Tests.{eqb-false}
use Rattle.mask.specs.Mask.{has, beyond}
use Rattle.analysis_weights.specs.Weight.{total, weight_of}
use Rattle.analysis_pairs.specs.declared.Masks.{Masks}
use Rattle.table.specs.Table.{Table}
use Rattle.table.specs.Check.{check_of}
use Rattle.book_judge.specs.Read.{read_of}
use Rattle.analysis_masks.specs.Report.{Report}
use Rattle.analysis_masks.specs.Bound.{Bound}
use Rattle.analysis_masks.specs.Report.{Reported}
use Rattle.analysis_masks.specs.Bound.{Bounded}
use Rattle.cases.proofs.ComputeLaws.{report_by}
use Rattle.cases.proofs.WrittenLaws.{with_zeros, graphs}
use Rattle.analysis.specs.TableMasks.{masks_of}
use Rattle.analysis.specs.Says.{ReportSays, BoundSays}
use Rattle.report_lines.specs.FourLines.{refused_line, pairs_line, four_lines}
use Rattle.report_lines.specs.Lines.{FourLines, TextOf}
use Rattle.cases.proofs.JudgedLaws.{Sheet, masks, tests, every, Findings, findings, report-says, bound-is, bound-refused}
use Rattle.cases.specs.Case.{book_table, bounds, Holds}

-- a report that says x, and a bound of v, with all that is not printed left out
abbrev pub report_from : Findings → Report
report_from x =
    record {
      number = 0;
      place = 255;
      cleared = x.0;
      faulty = x.1;
      marks = [];
      failing = x.2;
      first = x.3.0;
      second = x.3.1;
      culprit = x.4.0;
      other = x.4.1;
    }

abbrev pub bound_from : ℕ → Bound
bound_from v = record { number = 0; place = 255; bound = v }

four : (t : Table) (r : Report) (b : Bound) → four_lines t r b ≡ four_lines t (report_from (findings r)) (bound_from b.bound)
unfolding four_lines pairs_line findings
four t r b = refl

-- a book that is refused
pub refused : (s : List ℕ) → eqb (read_of s).number 0 ≡ false → (text : List ℕ) → TextOf (read_of s) text
    → text ≡ refused_line (read_of s).number (read_of s).place
refused s e text p = p.refused (eqb-false (read_of s).number 0 e)

-- a book of the rules on a sheet, whose report says x
pub record OnSheet (s : List ℕ) (h : Sheet) (x : Findings) : Type 0 where
  pub fair : every (tests h) ≡ true
  pub says : findings (report_by (graphs h.n h.trig h.before h.clash)) ≡ x
  pub read : (read_of s).number ≡ 0
  pub checked : (check_of (book_table s)).number ≡ 0
  pub masks : masks_of (book_table s) ≡ masks h

module _ (s : List ℕ) (h : Sheet) (x : Findings) (w : OnSheet s h x) where
  report : (r : Report) → ReportSays (book_table s) r → findings r ≡ x
  report r p = report-says h w.fair x w.says r (subst (λ (m : Masks). Reported m r) w.masks (p.done w.checked))

  bounded : (set : ℕ) (b : Bound) → BoundSays (book_table s) set b → Bounded (masks h) set b
  bounded set b p = subst (λ (m : Masks). Bounded m set b) w.masks (p.done w.checked)

  -- the step bound of a set of rules that end
  pub bound : x.1 ≡ 0 → (set v : ℕ) → beyond set h.n ≡ false → total 32 set (weight_of (with_zeros h.trig) h.n) ≡ v
      → Holds (bounds s set v)
  bound none set v fits sum b p = bound-is h w.fair x w.says none set v fits sum b (bounded set b p)

  printed : (set v : ℕ) → 2 ^ (book_table s).n - 1 ≡ set → ((b : Bound) → BoundSays (book_table s) set b → b.bound ≡ v)
      → (text : List ℕ) → TextOf (read_of s) text → text ≡ four_lines (book_table s) (report_from x) (bound_from v)
  printed set v all sum text p =
      let q : FourLines (book_table s) text = p.done w.read in
      q.is ∙ (four (book_table s) q.report q.bound
      ∙ ap₂ (λ (y : Findings) (v : ℕ). four_lines (book_table s) (report_from y) (bound_from v)) (report q.report q.says)
      (sum q.bound (subst (λ (z : ℕ). BoundSays (book_table s) z q.bound) all q.bounds)))

  -- the lines of rules that end, with the step bound of all
  pub lines : x.1 ≡ 0 → (set v : ℕ) → 2 ^ (book_table s).n - 1 ≡ set → beyond set h.n ≡ false
      → total 32 set (weight_of (with_zeros h.trig) h.n) ≡ v
      → (text : List ℕ) → TextOf (read_of s) text → text ≡ four_lines (book_table s) (report_from x) (bound_from v)
  lines none set v all fits sum = printed set v all (λ b p. (bound none set v fits sum b p).1)

  -- the lines of rules of which r reaches itself
  pub endless-lines : (r : ℕ) → has x.1 r ≡ true → (set : ℕ) → 2 ^ (book_table s).n - 1 ≡ set → beyond set h.n ≡ false
      → (text : List ℕ) → TextOf (read_of s) text → text ≡ four_lines (book_table s) (report_from x) (bound_from 0)
  endless-lines r faulty set all fits =
      printed set 0 all (λ b p. (bound-refused h w.fair x w.says r faulty set fits b (bounded set b p)).1)
