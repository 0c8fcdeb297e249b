-- What `lines` promises.
use Rattle.std.specs.Prelude.{◌≡◌, cond, List, ℕ, ◌-◌, ◌^◌, ◌≤◌, ltb, length}
use Rattle.little.specs.Put.{put}
use Rattle.table.specs.Table.{Table}
use Rattle.refusal.specs.Answer.{Answer}
use Rattle.refusal.specs.RefusalNumbers.{answer_of}
use Rattle.table.specs.Check.{Checked}
use Rattle.book_judge.specs.Read.{Reading, read_of, told}
use Rattle.analysis_masks.specs.Report.{Report}
use Rattle.analysis_masks.specs.Bound.{Bound}
use Rattle.analysis.specs.Says.{ReportSays, BoundSays}
use Rattle.report_lines.specs.declared.Output.{Output}
use Rattle.report_lines.specs.FourLines.{refused_line, four_lines}

-- what a call gives: the book's number and place, and the length of the text
pub record Printed : Type 0 where
  pub number : ℕ
  pub place : ℕ
  pub length : ℕ

abbrev pub printed_of : Output → Printed
printed_of o = record { number = (answer_of o.book).number; place = (answer_of o.book).place; length = o.length }

-- the number, the place and the length of a text, and the buffer with the text at its start; a buffer that is too short stays as it
-- is, and the length is 0
abbrev pub laid : Answer → List ℕ → List ℕ → Printed × List ℕ
laid a d text =
    let of : ℕ → Printed = λ size. record { number = a.number; place = a.place; length = size } in
    cond (ltb (length d) (length text)) (of 0, d) (of (length text), put d 0 text)

-- the four lines of a table: of its report, and of the step bound of all rules, the set of the numbers below n
pub record FourLines (t : Table) (text : List ℕ) : Type 0 where
  pub report : Report
  pub says : ReportSays t report
  pub bound : Bound
  pub bounds : BoundSays t (2 ^ t.n - 1) bound
  pub is : text ≡ four_lines t report bound

-- what is printed for a reading
abbrev pub TextOf : Reading → List ℕ → Type 0
TextOf r = Checked (told r) refused_line (FourLines r.table)

-- "It reads a book .. and prints": what a call gives for the book s and the buffer d, and the buffer that it leaves
pub record LinesSay (s d : List ℕ) (given : Printed × List ℕ) : Type 0 where
  pub text : List ℕ
  pub printed : TextOf (read_of s) text
  -- so a buffer of 512 bytes is never too short
  pub most : length text ≤ 512
  pub is : given ≡ laid (told (read_of s)) d text
