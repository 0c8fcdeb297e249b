-- What is promised of a sound table, and that it determines the answers: any two results that meet it are equal.
use mathlib.Core.Path.{◌≡◌, sym, ap, ◌∙◌, subst}
use Prim.Native.Nat.{ℕ, ◌^◌, ◌<◌}
use native.Mathlib.Decide.{ℕ_discrete}
use Rattle.table.specs.Table.{Table, rule_at}
use Rattle.refusal.specs.Answer.{Answer}
use Rattle.table.specs.Check.{check_of, Checked, Sound}
use Rattle.table.proofs.SoundLaws.{sound-by}
use Rattle.analysis_masks.specs.Report.{Report}
use Rattle.analysis_masks.specs.Bound.{Bound}
use Rattle.analysis_pairs.specs.declared.Masks.{Masks}
use Rattle.analysis_masks.specs.Report.{Reported}
use Rattle.analysis_masks.specs.Bound.{Bounded}
use Rattle.analysis_masks.proofs.ReportLaws.{unique}
use Rattle.analysis_masks.proofs.BoundLaws.{bound-unique}
use Rattle.analysis.specs.TableMasks.{masks_of}
use Rattle.analysis.proofs.TableMasksLaws.{masks-orderly}
use Rattle.analysis.specs.Says.{ReportSays, BoundSays}

-- ---- of any call that first makes the checks
module _ {A : Type 0} {refusal : ℕ → ℕ → A} {Done : A → Type 0} where
  -- of a sound table no answer is refused
  sound-says : {t : Table} {x : A} → Sound t → Done x → Checked (check_of t) refusal Done x
  sound-says s h =
      record { refused = λ ne. absurd (ne (ap (λ (x : Answer). x.number) s.checked)); done = λ e. h }

  pub says-unique : {check : Answer} {x y : A} → (check.number ≡ 0 → Done x → Done y → x ≡ y) → Checked check refusal Done x
      → Checked check refusal Done y → x ≡ y
  says-unique {check} h p q =
      elim (ℕ_discrete check.number 0) [
        | yes e ↦ h e (p.done e) (q.done e)
        | no ne ↦ p.refused ne ∙ sym (q.refused ne)
      ]

-- ---- the two calls

pub sound_reports : {t : Table} {r : Report} → Sound t → Reported (masks_of t) r → ReportSays t r
sound_reports s h = sound-says s h

pub sound-bounds : {t : Table} {set : ℕ} {b : Bound} → Sound t → Bounded (masks_of t) set b → BoundSays t set b
sound-bounds s h = sound-says s h

pub report-unique : (t : Table) (r s : Report) → ReportSays t r → ReportSays t s → r ≡ s
report-unique t r s = says-unique (λ e. unique (masks_of t) r s)

-- of a table that memory can hold: its precedes masks have 32 bits
pub bound_of_unique : (t : Table) → ((i : ℕ) → i < t.n → (rule_at t i).precedes < 2 ^ 32) → (set : ℕ) (a b : Bound)
    → BoundSays t set a → BoundSays t set b → a ≡ b
bound_of_unique t h set a b = says-unique (λ e. bound-unique (masks_of t) (masks-orderly t (sound-by t e) h) set a b)

-- the report depends on nothing but the four masks of each rule
pub masks_alone : (t u : Table) → Sound t → Sound u → masks_of t ≡ masks_of u → (r s : Report) → ReportSays t r → ReportSays u s → r ≡ s
masks_alone t u a b e r s p q =
    unique (masks_of u) r s
    (subst (λ (m : Masks). Reported m r) e (p.done (ap (λ (x : Answer). x.number) a.checked)))
    (q.done (ap (λ (x : Answer). x.number) b.checked))
