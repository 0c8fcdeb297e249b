-- What is put into the arrays, and what is refused as too many.
use mathlib.Core.Path.{◌≡◌, sym, ap, ◌∙◌}
use mathlib.Core.List.{List}
use Prim.Native.Nat.{ℕ, ◌<◌}
use native.Mathlib.Omega.{arith}
use borrow.Author.Tests.{lt-ltb}
use Rattle.refusal.specs.Answer.{Answer}
use Rattle.table.specs.Check.{answer}
use Rattle.analysis_pairs.specs.declared.Masks.{Masks}
use Rattle.analysis_pairs.specs.AnalysisPairsInner.{masks_in}
use Rattle.analysis_masks.specs.Report.{Report, refused_report}
use Rattle.analysis.proofs.TableMasksLaws.{filled-past}
use Rattle.editor.specs.declared.Record.{Record}
use Rattle.editor.specs.Rows.{first_masks, RowsSay}
use Rattle.editor_check.specs.RowNumbers.{check_rows}
use Rattle.editor.specs.EditorInner.{RestZero}

-- four rows that are equal to four others
pub masks_are : (n : ℕ) {w x r s u v p q : List ℕ} → w ≡ x → r ≡ s → u ≡ v → p ≡ q → masks_in n w r u p ≡ masks_in n x s v q
masks_are n a b c d = rw (a, b, c, d)

pub first-rest-zero : (rs : List Record) (n : ℕ) → RestZero (first_masks rs n)
first-rest-zero rs n =
    record { watch = filled-past n _; reads = filled-past n _; writes = filled-past n _; precedes = filled-past n _ }

too_many : (m : Masks) → 32 < m.n → check_rows m ≡ answer 3 255
unfolding check_rows
too_many m l = rw (lt-ltb 32 m.n l)

not_done : (m : Masks) → 32 < m.n → (check_rows m).number ≡ 0 → ⊥
not_done m l z = let y : ◌≡◌ {A = ℕ} 3 0 = sym (ap (λ (a : Answer). a.number) (too_many m l)) ∙ z in omega (arith, y)

pub many-refused : (m : Masks) (r : Report) → 32 < m.n → r ≡ refused_report 3 255 → RowsSay m r
many-refused m r l e = record { refused = λ ne. rw (too_many m l) e; done = λ z. absurd (not_done m l z) }
