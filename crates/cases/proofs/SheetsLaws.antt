-- The rules of the paper's books, written out, with what a report on each says.
use mathlib.Core.Path.{refl}
use mathlib.Core.Bool.{true, false}
use mathlib.Core.List.{[], ◌∷◌}
use Prim.Native.Nat.{ℕ}
use Rattle.mask.specs.Search as Search
use Rattle.mask.specs.Mask as Mask
use Rattle.mask.specs.MaskInner as MaskInner
use Rattle.graph.specs.Graph as Graph
use Rattle.rule.specs.Numbers as Numbers
use Rattle.rule.specs.Uses as Uses
use Rattle.table.specs.Table as Table
use Rattle.table.specs.Check as Check
use Rattle.table.specs.BodyStarts as BodyStarts
use Rattle.book_judge.specs.Read as Read
use Rattle.analysis_pairs.specs.RuleMasks as Masks
use Rattle.analysis_pairs.specs.AnalysisPairsInner as Growing
use Rattle.analysis_pairs.proofs.SettleLaws as Settle
use Rattle.analysis_pairs.proofs.VerdictLaws as Verdict
use Rattle.analysis_marks.specs.Index as Index
use Rattle.cases.proofs.ComputeLaws as Compute
use Rattle.cases.proofs.WrittenLaws as Written
use Rattle.cases.specs.Books as Books
use Rattle.cases.proofs.JudgedLaws.{Sheet, Findings, findings}
use Rattle.cases.proofs.ToldLaws.{OnSheet}

-- "no rules; cleared"
abbrev pub empty_sheet : Sheet
empty_sheet = record { n = 0; watch = []; reads = []; writes = []; precedes = []; trig = []; before = []; clash = [] }

-- tax watches and reads cell 0 and writes cell 1
abbrev pub tax_sheet : Sheet
tax_sheet =
    record {
      n = 1;
      watch = 1 ∷ [];
      reads = 1 ∷ [];
      writes = 2 ∷ [];
      precedes = 0 ∷ [];
      trig = 0 ∷ [];
      before = 0 ∷ [];
      clash = 0 ∷ [];
    }

-- "a rule that watches and writes cell 0"; it reads it too
abbrev pub circle_sheet : Sheet
circle_sheet =
    record {
      n = 1;
      watch = 1 ∷ [];
      reads = 1 ∷ [];
      writes = 1 ∷ [];
      precedes = 0 ∷ [];
      trig = 1 ∷ [];
      before = 0 ∷ [];
      clash = 0 ∷ [];
    }

-- "tax watches cell 0 and writes cell 1, post watches and reads cell 1 and writes cell 2"
abbrev tax_and_post_sheet : ℕ → Sheet
tax_and_post_sheet precedes =
    record {
      n = 2;
      watch = 1 ∷ 2 ∷ [];
      reads = 1 ∷ 2 ∷ [];
      writes = 2 ∷ 4 ∷ [];
      precedes = precedes ∷ 0 ∷ [];
      trig = 2 ∷ 0 ∷ [];
      before = precedes ∷ 0 ∷ [];
      clash = 2 ∷ 1 ∷ [];
    }

-- "unordered"
abbrev pub unordered_sheet : Sheet
unordered_sheet = tax_and_post_sheet 0

-- "With tax before post"
abbrev pub ordered_sheet : Sheet
ordered_sheet = tax_and_post_sheet 2

-- "Rule 0 watches cell 0, sets cell 1 to cell 0 + 1. Rule 1 watches cell 0, sets cell 2 to 9. Rule 2 watches cell 1,
-- sets cell 2 to 7, goes before 0 and 1."
abbrev pub night_sheet : Sheet
night_sheet =
    record {
      n = 3;
      watch = 1 ∷ 1 ∷ 2 ∷ [];
      reads = 1 ∷ 0 ∷ 0 ∷ [];
      writes = 2 ∷ 4 ∷ 4 ∷ [];
      precedes = 0 ∷ 0 ∷ 3 ∷ [];
      trig = 4 ∷ 0 ∷ 0 ∷ [];
      before = 0 ∷ 0 ∷ 3 ∷ [];
      clash = 4 ∷ 4 ∷ 3 ∷ [];
    }

-- cleared, or not; the faulty rules; how many pairs fail; the first; its culprits
abbrev pub clear : Findings
clear = (true, 0, 0, (0, 0), (0, 0))

-- each book has the rules of its sheet, and its report says so
pub record Sheeted : Type 0 where
  pub empty : OnSheet Books.empty empty_sheet clear
  pub tax : OnSheet Books.tax tax_sheet clear
  pub circle : OnSheet Books.circle circle_sheet (false, 1, 0, (0, 0), (0, 0))
  pub unordered : OnSheet Books.unordered unordered_sheet (false, 0, 1, (0, 1), (0, 1))
  pub ordered : OnSheet Books.ordered ordered_sheet clear
  -- "(0,1) fails through 2 and 1"
  pub night : OnSheet Books.night night_sheet (false, 0, 1, (0, 1), (2, 1))

pub sheets : Sheeted
unfolding Search.some Search.least Search.count Mask.has Mask.meet MaskInner.lowest Mask.beyond Mask.mask_of Graph.leads
    Numbers.counts_bad Numbers.cells_bad Numbers.forms_bad Numbers.twice Numbers.letters_bad Numbers.same_name
    Numbers.name_taken Numbers.rule_number Numbers.rule_slot_bad Uses.reads Uses.writes Table.goes_before Check.sizes_bad
    Check.number_at Check.first_bad Check.first_slot Graph.cyclic Check.check_of BodyStarts.start_at Read.contents_bad Read.table_in
    Read.number_in Read.first_in Read.read_of Masks.may_trigger Masks.writes_into Masks.commute
    Growing.grows Settle.settle Verdict.guilty Compute.verdict Index.start Compute.mark_of Compute.locate Compute.marks_of
    Compute.first_failing Compute.report_by Written.with_zeros Written.sheet_masks Written.wrong Written.graphs Written.row_differs findings
sheets =
    record {
      empty = record { fair = refl; says = refl; read = refl; checked = refl; masks = refl };
      tax = record { fair = refl; says = refl; read = refl; checked = refl; masks = refl };
      circle = record { fair = refl; says = refl; read = refl; checked = refl; masks = refl };
      unordered = record { fair = refl; says = refl; read = refl; checked = refl; masks = refl };
      ordered = record { fair = refl; says = refl; read = refl; checked = refl; masks = refl };
      night = record { fair = refl; says = refl; read = refl; checked = refl; masks = refl };
    }
