-- A row with no number is orderly, as the judging asks.
use mathlib.Core.Path.{◌≡◌, sym, ◌∙◌, subst}
use mathlib.Core.Logic.{⊎_elim}
use mathlib.Core.Bool.{false}
use Prim.Native.Nat.{ℕ, ◌^◌, ◌≤◌, ◌<◌}
use native.Mathlib.Omega.{arith}
use native.Mathlib.Decide.{ℕ_discrete}
use lib.ListN.{get_or}
use lib.Pow.{pow_pos}
use borrow.Author.Tests.{ltb-false}
use Rattle.mask.proofs.FirstLaws.{first-passed}
use Rattle.mask.proofs.SearchLaws.{lt-or_ge}
use Rattle.graph.specs.Graph.{cyclic}
use Rattle.graph.specs.GraphInner.{Rows}
use Rattle.refusal.specs.Answer.{Answer}
use Rattle.table.specs.Check.{done}
use Rattle.analysis_pairs.specs.declared.Masks.{Masks}
use Rattle.analysis_masks.specs.Report.{Report}
use Rattle.analysis_masks.specs.AnalysisMasksInner.{Orderly}
use Rattle.analysis_masks.proofs.ReportLaws.{unique}
use Rattle.editor.specs.EditorInner.{RestZero}
use Rattle.editor_check.specs.EditorCheckInner.{RowChecked, only_precedes}
use Rattle.editor_check.specs.RowNumbers.{first_beyond, row_answers, check_rows}
use Rattle.editor.specs.Rows.{RowsSay}
use Rattle.std.proofs.Common.{Result, Ok, Err, ap}
use Rattle.refusal.specs.declared.Refusal.{Refusal}
use Rattle.refusal.specs.RefusalNumbers.{answer_of}
use Rattle.refusal.proofs.RefusalLaws.{not_done}
use Rattle.analysis_masks.specs.Report.{Reported, refused_report}
use Rattle.analysis_masks.specs.Found.{report_of}

-- the numbers ask for the precedes masks alone
pub checked_in : (m : Masks) {a : Answer} → RowChecked (only_precedes m.n m.precedes) a → RowChecked m a
unfolding check_rows first_beyond
checked_in m h = record { is = h.is; named = h.named }

-- no number applies
pub record NoNumber (m : Masks) : Type 0 where
  pub few : m.n ≤ 32
  pub inside : m.n ≤ first_beyond m
  pub straight : cyclic m.n m.precedes ≡ false

pub no_number : (m : Masks) → (check_rows m).number ≡ 0 → NoNumber m
unfolding check_rows
no_number m e =
    let p = first-passed (λ (a : Answer). a.number ≡ 0) done (row_answers m)
    (λ _ z. omega (arith, z), (λ _ z. omega (arith, z), (λ _ z. omega (arith, z), tt))) e in
    record { few = ltb-false 32 m.n p.0; inside = ltb-false (first_beyond m) m.n p.1.0; straight = p.1.1.0 }

pub orderly : (m : Masks) → RestZero m → NoNumber m → ((i : ℕ) → i < m.n → get_or m.precedes i 0 < 2 ^ m.n) → Orderly m
orderly m p c named =
    record {
      few = c.few;
      named = rows;
      watch = p.watch c.few;
      reads = p.reads c.few;
      writes = p.writes c.few;
      precedes = p.precedes c.few;
    }
  where
    rows : Rows m.n m.precedes
    rows r =
        ⊎_elim (named r)
        (λ l. subst (λ (x : ℕ). x < 2 ^ m.n) (sym (p.precedes c.few r l)) (pow_pos m.n))
        (lt-or_ge r m.n)

-- what is promised determines the report
pub rows-unique : (m : Masks) (r s : Report) → RowsSay m r → RowsSay m s → r ≡ s
rows-unique m r s p q = go (ℕ_discrete (check_rows m).number 0)
  where
    go : Dec ((check_rows m).number ≡ 0) → r ≡ s
    go (yes e) = unique m r s (p.done e) (q.done e)
    go (no ne) = p.refused ne ∙ sym (q.refused ne)

-- ---- what the check says of a row

module _ (m : Masks) {A : Type 0} {a : Result A Refusal} (h : RowChecked (only_precedes m.n m.precedes) (answer_of a)) where
  -- the first number that applies refuses it
  pub refused-says : {e : Refusal} → a ≡ Err e → RowsSay m (report_of (Err e))
  refused-says {e} is =
      let k = (checked_in m h).is in
      let n = ap (λ (x : Result A Refusal). answer_of x) is in
      record {
        refused = λ ne. ap (λ (x : Answer). refused_report x.number x.place) (sym n ∙ k);
        done = λ z. absurd (not_done e (ap (λ (x : Answer). x.number) (sym n ∙ k) ∙ z));
      }

  -- no number applies: it is orderly, and what is said of its masks is said of it
  module _ {x : A} (is : a ≡ Ok x) where
    none-applies : (check_rows m).number ≡ 0
    none-applies = ap (λ (y : Answer). y.number) (sym (checked_in m h).is ∙ ap (λ (y : Result A Refusal). answer_of y) is)

    pub checked-orderly : RestZero m → Orderly m
    checked-orderly z = orderly m z (no_number m none-applies) ((checked_in m h).named (ap (λ (y : Answer). y.number) (ap (λ (y : Result A Refusal). answer_of y) is)))

    pub checked-says : {r : Report} → Reported m r → RowsSay m r
    checked-says p = record { refused = λ ne. absurd (ne none-applies); done = λ _. p }
