-- The masks of a table are the sets of cells that its rules watch, read and write, and what the analysis makes of them is said in
-- those sets.
use mathlib.Core.Path.{◌≡◌, sym, ap, ap₂, ◌∙◌}
use mathlib.Core.Bool.{Bool, true, ◌&&◌, ◌||◌, false≢true, or-true}
use Prim.Native.Nat.{ℕ, ◌<◌}
use lib.ListN.{get_or}
use Rattle.mask.proofs.SearchLaws.{some_intro}
use Rattle.mask.specs.Mask.{has, meet, mask_of}
use Rattle.mask.proofs.LoopsLaws.{picked_all, mask_of_picked}
use Rattle.rule.proofs.FillLaws.{get_or-filled}
use Rattle.rule.specs.Uses.{watches, reads, writes}
use Rattle.table.specs.Table.{Table, rule_at}
use Rattle.analysis_pairs.specs.declared.Masks.{Masks}
use Rattle.analysis_pairs.specs.RuleMasks.{may_trigger, writes_into, commute}
use Rattle.analysis_pairs.proofs.RuleMasksLaws.{commute-apart}
use Rattle.analysis.specs.TableMasks.{masks_of}

-- two masks that share a member meet
meet-at : (a b x : ℕ) → x < 32 → has a x ≡ true → has b x ≡ true → meet a b ≡ true
unfolding meet
meet-at a b x l p q = some_intro 32 (λ i. has a i && has b i) x l (ap₂ ◌&&◌ p q)

module _ (t : Table) where
  m : Masks
  m = masks_of t

  watch-has : (r x : ℕ) → r < t.n → has (get_or m.watch r 0) x ≡ watches (rule_at t r) x
  unfolding m
  watch-has r x l = ap (λ (k : ℕ). has k x) (get_or-filled 32 0 (λ i. (rule_at t i).watch) t.n 0 r l)

  reads-has : (r x : ℕ) → r < t.n → x < 32 → has (get_or m.reads r 0) x ≡ reads (rule_at t r) x
  unfolding m
  reads-has r x l h =
      ap (λ (k : ℕ). has k x) (get_or-filled 32 0 (λ i. mask_of 32 (reads (rule_at t i))) t.n 0 r l)
      ∙ picked_all (reads (rule_at t r)) 32 _ (mask_of_picked 32 (reads (rule_at t r))) x h

  writes-has : (r x : ℕ) → r < t.n → x < 32 → has (get_or m.writes r 0) x ≡ writes (rule_at t r) x
  unfolding m
  writes-has r x l h =
      ap (λ (k : ℕ). has k x) (get_or-filled 32 0 (λ i. mask_of 32 (writes (rule_at t i))) t.n 0 r l)
      ∙ picked_all (writes (rule_at t r)) 32 _ (mask_of_picked 32 (writes (rule_at t r))) x h

  -- "r may trigger s when s watches a cell that r writes"
  pub may_trigger_lem : (r s x : ℕ) → r < t.n → s < t.n → x < 32 → writes (rule_at t r) x ≡ true → watches (rule_at t s) x ≡ true
      → may_trigger (masks_of t) r s ≡ true
  unfolding may_trigger m
  may_trigger_lem r s x lr ls lx w v =
      meet-at (get_or m.watch s 0) (get_or m.writes r 0) x lx (watch-has s x ls ∙ v) (writes-has r x lr lx ∙ w)

  -- two different rules that commute: "neither may trigger the other, and neither writes a cell that the other reads or writes"
  module _ (r s : ℕ) (lr : r < t.n) (ls : s < t.n) (ne : r ≡ s → ⊥) (c : commute (masks_of t) r s ≡ true) where
    pub commute-quiet : may_trigger (masks_of t) r s ≡ true → ⊥
    commute-quiet e = false≢true (sym (commute-apart (masks_of t) r s ne c).may ∙ e)

    pub commute-reads : (x : ℕ) → x < 32 → writes (rule_at t r) x ≡ true → reads (rule_at t s) x ≡ true → ⊥
    unfolding writes_into m
    commute-reads x lx w e =
        false≢true
        (sym (commute-apart (masks_of t) r s ne c).writes
        ∙ ap (λ (b : Bool). b || meet (get_or m.writes r 0) (get_or m.writes s 0))
        (meet-at (get_or m.writes r 0) (get_or m.reads s 0) x lx (writes-has r x lr lx ∙ w) (reads-has s x ls lx ∙ e)))

    pub commute-writes : (x : ℕ) → x < 32 → writes (rule_at t r) x ≡ true → writes (rule_at t s) x ≡ true → ⊥
    unfolding writes_into m
    commute-writes x lx w e =
        false≢true
        (sym (commute-apart (masks_of t) r s ne c).writes
        ∙ ap (λ (b : Bool). meet (get_or m.writes r 0) (get_or m.reads s 0) || b)
        (meet-at (get_or m.writes r 0) (get_or m.writes s 0) x lx (writes-has r x lr lx ∙ w) (writes-has s x ls lx ∙ e))
        ∙ or-true (meet (get_or m.writes r 0) (get_or m.reads s 0)))
