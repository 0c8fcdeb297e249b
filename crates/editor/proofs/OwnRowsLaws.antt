-- For a sound table, the report of its own rows is the report of the table.
use mathlib.Core.Path.{◌≡◌, sym, ap, ◌∙◌, subst}
use mathlib.Core.Bool.{false}
use Prim.Native.Nat.{ℕ, ◌^◌, ◌≤◌, ◌<◌}
use native.Mathlib.Nat.{le_trans, le_refl}
use lib.ListN.{get_or}
use lib.Pow.{pow_mono}
use borrow.Author.Tests.{le-ltb, lt-leb}
use Rattle.mask.proofs.SearchLaws.{least-none}
use Rattle.mask.specs.Mask.{beyond}
use Rattle.mask.proofs.MaskLaws.{beyond_law}
use Rattle.rule.proofs.FillLaws.{upto-same, length-upto, get_or-upto}
use Rattle.rule.specs.Fill.{upto}
use Rattle.table.specs.Table.{Table, rule_at, precedes_of}
use Rattle.refusal.specs.Answer.{Answer}
use Rattle.graph.specs.Graph.{cyclic}
use Rattle.table.specs.Check.{done, Sound}
use Rattle.table.proofs.SoundLaws.{parts}
use Rattle.table.proofs.BeforeLaws.{precedes-rows}
use Rattle.analysis_pairs.specs.declared.Masks.{Masks}
use Rattle.analysis_masks.specs.Report.{Report}
use Rattle.analysis_masks.proofs.ReportLaws.{unique}
use Rattle.analysis.specs.TableMasks.{masks_of}
use Rattle.analysis.specs.Says.{ReportSays}
use Rattle.editor.specs.declared.Record.{Record}
use Rattle.editor.specs.Rows.{no_record, row_masks, RowsSay}
use Rattle.editor_check.specs.RowNumbers.{first_beyond, check_rows}
use Rattle.editor.specs.OwnRows.{record_of, rows_of}

module _ (t : Table) where
  -- what is asked of the records of the row is what is asked of the rules
  same : (f : Record → ℕ) → upto t.n (λ i. f (get_or (rows_of t) i no_record)) ≡ upto t.n (λ i. f (record_of t i))
  same f =
      upto-same t.n (λ i. f (get_or (rows_of t) i no_record)) (λ i. f (record_of t i))
      (λ i l. ap f (get_or-upto t.n (record_of t) no_record i l))

  -- their masks are the table's
  pub own-masks : row_masks (rows_of t) ≡ masks_of t
  own-masks =
      rw (
        length-upto t.n (record_of t),
        same (λ r. r.watch),
        same (λ r. r.reads),
        same (λ r. r.writes),
        same (λ r. r.precedes),
      )

  module _ (s : Sound t) (h : (i : ℕ) → i < t.n → (rule_at t i).precedes < 2 ^ 32) where
    few : t.n ≤ 32
    few = (parts t s).sizes.rules

    inside : first_beyond (masks_of t) ≡ t.n
    unfolding first_beyond
    inside =
        least-none t.n (λ i. beyond (get_or (precedes_of t) i 0) t.n)
        (λ i l.
        sym (beyond_law (get_or (precedes_of t) i 0) t.n (le_trans (precedes-rows t s h i) (pow_mono few)))
        ∙ lt-leb (2 ^ t.n) (get_or (precedes_of t) i 0) (precedes-rows t s h i))

    straight : cyclic t.n (precedes_of t) ≡ false
    straight = (parts t s).acyclic

    -- no number applies to them
    pub own-checked : check_rows (masks_of t) ≡ done
    unfolding check_rows
    own-checked = rw (le-ltb 32 t.n few, inside, le-ltb t.n t.n (le_refl t.n), straight)

    -- the report of its own rows is the report of the table
    pub own-report : (r a : Report) → RowsSay (row_masks (rows_of t)) r → ReportSays t a → r ≡ a
    own-report r a p q =
        unique (masks_of t) r a
        ((subst (λ (m : Masks). RowsSay m r) own-masks p).done (ap (λ (x : Answer). x.number) own-checked))
        (q.done (ap (λ (x : Answer). x.number) s.checked))
