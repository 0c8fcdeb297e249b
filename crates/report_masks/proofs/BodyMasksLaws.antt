-- The bodies of a book that was read are its rules.
use Rattle.report_masks.specs.ReportMasksInner.{HasBody, BodyAt}
use mathlib.Core.Path.{◌≡◌, sym, ap, ap₂, ◌∙◌, subst}
use mathlib.Core.List.{List}
use lib.ListN.{length}
use Prim.Native.Nat.{ℕ, ◌+◌, ◌*◌, ◌^◌, ◌<◌, ◌≤◌}
use native.Mathlib.Omega.{arith}
use Rattle.little.specs.Little.{byte_at}
use Rattle.little.specs.EachByte.{Bytes}
use Rattle.rule.specs.declared.Rule.{Rule}
use Rattle.rule_read.specs.Parts.{rule_of}
use Rattle.rule_read.specs.RuleReadInner.{Room}
use Rattle.table.specs.Table.{rule_at}
use Rattle.book_judge.specs.Read.{start_of, rule_in, table_in, read_of}
use Rattle.book_judge.specs.BookJudgeInner.{n_of, GoodBodies}
use Rattle.book_judge.proofs.ReadLaws.{rule_in_lem, read_done}
use Rattle.book_judge.proofs.InsideLaws.{counts, room}
use Rattle.book_judge.proofs.AnswerLaws.{bodies}
use Rattle.analysis_masks.specs.AnalysisMasksInner.{Orderly}
use Rattle.analysis.specs.TableMasks.{cells_of, masks_of}
use mathlib.Core.Bool.{Bool, ◌&&◌}
use lib.Dec.{ltb}
use Rattle.mask.specs.Mask.{has, mask_of}
use Rattle.analysis.proofs.TableMasksLaws.{masks-orderly, cells_is}

module _ (s : List ℕ) where
  pub in_book : (read_of s).number ≡ 0 → GoodBodies s
  in_book e = bodies s (read_done s e)

  pub few-rules : (read_of s).number ≡ 0 → n_of s ≤ 32
  few-rules e = (in_book e).inside.few

  -- its entry lies in the contents, and its head in the book
  pub has_entry : (i : ℕ) → HasBody s i → (i < 32) × (8 + 4 * i ≤ length s)
  has_entry i h = (omega (arith, h.1, few-rules h.0), omega (arith, h.1, (in_book h.0).inside.contents))

  pub body_at : (i : ℕ) → HasBody s i → (at t a : ℕ) → at ≡ start_of s i → t ≡ byte_at s (at + 8) → a ≡ byte_at s (at + 9) → BodyAt s i at t a
  body_at i h at t a e f g =
      let b = in_book h.0 in
      let r = subst (λ (x : ℕ). Room s at x a (byte_at s (at + 10))) (sym f)
      (subst (λ (x : ℕ). Room s at (byte_at s (at + 8)) x (byte_at s (at + 10))) (sym g)
      (subst (λ (x : ℕ). Room s x (byte_at s (x + 8)) (byte_at s (x + 9)) (byte_at s (x + 10))) (sym e)
      (room s i (b.inside.bodies i h.1) (counts s i (b.good i h.1))))) in
      record {
        room = record { tests = r.tests; assigns = r.assigns; letters = omega arith; inside = omega (arith, r.inside) };
        tests = f;
        assigns = g;
        rule = ap₂ (λ (x y : ℕ). rule_of s at x y (byte_at s (at + 10))) f g ∙ ap (rule_in s) e ∙ sym (rule_in_lem s i h.1);
      }

  -- the mask of the cells that a test picks in its rule
  pub body_cells : (f : Rule → ℕ → Bool) (i at t a : ℕ) {g m : ℕ} → g ≡ m → BodyAt s i at t a → m < 2 ^ 32
      → ((x k : ℕ) → has m x ≡ (ltb x 32 && f (rule_of s at t a k) x)) → g ≡ cells_of f (table_in s) i
  body_cells f i at t a is b small e =
      is ∙ cells_is f (rule_of s at t a (byte_at s (at + 10))) small (λ x. e x (byte_at s (at + 10))) ∙ ap (λ (r : Rule). mask_of 32 (f r)) b.rule

  -- a mask of four bytes
  pub narrow : Bytes s → (i : ℕ) → i < n_of s → (rule_at (table_in s) i).precedes < 2 ^ 32
  narrow bytes i l =
      let j = start_of s i + 4 in
      subst (λ (r : Rule). r.precedes < 2 ^ 32) (sym (rule_in_lem s i l))
      (omega (arith, bytes.small j, bytes.small (j + 1), bytes.small (j + 2), bytes.small (j + 2 + 1)))

  -- so its masks are what the judging asks for
  pub body-orderly : Bytes s → (read_of s).number ≡ 0 → Orderly (masks_of (table_in s))
  unfolding table_in
  body-orderly bytes e = masks-orderly (table_in s) (read_done s e).sound (narrow bytes)
