-- The promise determines the length and every byte of the buffer: any two results that meet it are equal.
use mathlib.Core.Path.{◌≡◌, sym, ap, ap₂, ◌∙◌, subst}
use mathlib.Core.List.{List}
use Prim.Native.Nat.{ℕ, ◌^◌, ◌<◌}
use native.Mathlib.Decide.{ℕ_discrete}
use Rattle.little.specs.EachByte.{Bytes}
use Rattle.table.specs.Table.{Table, rule_at}
use Rattle.book_judge.specs.Read.{Reading, table_in, read_of, told}
use Rattle.book_judge.proofs.ReadLaws.{read_done}
use Rattle.analysis.proofs.SaysLaws.{report-unique, bound_of_unique}
use Rattle.report_masks.proofs.BodyMasksLaws.{narrow}
use Rattle.report_lines.specs.FourLines.{four_lines}
use Rattle.refusal.specs.RefusalNumbers.{answer_of}
use Rattle.refusal.proofs.RefusalLaws.{answer_unique}
use Rattle.refusal.specs.declared.Refusal.{Refusal}
use Rattle.std.proofs.Common.{Result}
use Rattle.report_lines.specs.declared.Output.{Output}
use Rattle.report_lines.specs.Lines.{Printed, printed_of, laid, FourLines, TextOf, LinesSay}

-- the precedes masks of a table have 32 bits
abbrev Narrow : Table → Type 0
Narrow t = (i : ℕ) → i < t.n → (rule_at t i).precedes < 2 ^ 32

four-unique : (t : Table) → Narrow t → {a b : List ℕ} → FourLines t a → FourLines t b → a ≡ b
four-unique t h p q =
    p.is
    ∙ (ap₂ (four_lines t) (report-unique t p.report q.report p.says q.says)
    (bound_of_unique t h _ p.bound q.bound p.bounds q.bounds)
    ∙ sym q.is)

module _ (s : List ℕ) (bytes : Bytes s) where
  narrow-read : (read_of s).number ≡ 0 → Narrow (read_of s).table
  unfolding table_in
  narrow-read e = subst (λ (r : Reading). Narrow r.table) (sym (read_done s e).reading) (narrow s bytes)

  pub text-unique : {a b : List ℕ} → TextOf (read_of s) a → TextOf (read_of s) b → a ≡ b
  text-unique {a} {b} p q = go (ℕ_discrete (read_of s).number 0)
    where
      go : Dec ((read_of s).number ≡ 0) → a ≡ b
      go (yes e) = four-unique (read_of s).table (narrow-read e) (p.done e) (q.done e)
      go (no ne) = p.refused ne ∙ sym (q.refused ne)

  pub lines-unique : (d : List ℕ) {x y : Printed × List ℕ} → LinesSay s d x → LinesSay s d y → x ≡ y
  lines-unique d p q = p.is ∙ (ap (laid (told (read_of s)) d) (text-unique p.printed q.printed) ∙ sym q.is)

-- the paper's answer determines what lines returns
pub printed_determines : (x y : Output) → printed_of x ≡ printed_of y → x ≡ y
printed_determines x y e =
    let told : answer_of x.book ≡ answer_of y.book =
    ap₂ (λ (n p : ℕ). record { number = n; place = p }) (ap (λ (p : Printed). p.number) e) (ap (λ (p : Printed). p.place) e) in
    ap₂ (λ (b : Result (Unit {0}) Refusal) (n : ℕ). record { book = b; length = n }) (answer_unique x.book y.book told) (ap (λ (p : Printed). p.length) e)
