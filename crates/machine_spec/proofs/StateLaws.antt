-- What fitting means, part by part, and that resting, marking, storing and waking keep it.
use mathlib.Core.Path.{◌≡◌, refl, sym, ap, ap₂, ◌∙◌, subst}
use mathlib.Core.Logic.{⊎_elim}
use mathlib.Core.Bool.{Bool, true, false, not, cond, ◌&&◌, ◌||◌}
use mathlib.Core.List.{List}
use Prim.Native.Nat.{ℕ, ◌<◌, ◌≤◌, ◌^◌}
use lib.Dec.{eqb, ltb}
use lib.ListN.{length, set, get_or-eq_default}
use lib.IntN.{ℤ, pos}
use borrow.Author.Tests.{lt-ltb, le-ltb, ltb-true, eqb-true}
use Rattle.mask.specs.Search.{some}
use Rattle.mask.proofs.SearchLaws.{some_false, some-none, or_false_both, or_true_cases, and_true_both, lt-or_ge}
use Rattle.mask.specs.Mask.{has, beyond}
use Rattle.mask.proofs.LoopsLaws.{mask_of-lt}
use Rattle.rule.specs.declared.Rule.{Rule}
use Rattle.rule.specs.Uses.{watches, assign_at}
use Rattle.rule.specs.Numbers.{out_of_range, not_zero_z}
use Rattle.table.specs.Table.{Table, rule_at}
use Rattle.rule_sums.specs.Sums.{at, value_of}
use Rattle.rule_act.specs.Amounts.{any_out, stored}
use Rattle.rule_act.proofs.AmountsLaws.{at_set, stored-all}
use Rattle.rule_act.specs.RuleActInner.{changes}
use Rattle.rule_sums.specs.RuleSumsInner.{InRange}
use Rattle.rule_sums.proofs.PenceLaws.{same}
use Rattle.machine_spec.specs.declared.State.{State}
use Rattle.machine_spec.specs.State.{cell_bad, state_bad, Fits, waits}
use Rattle.machine_spec.specs.Step.{rested, marked, wakes, stored_and_woken}
use Rattle.mask.proofs.MaskBelowLaws.{Below, beyond-below, below-beyond, mask_of-below}

-- an amount that fits is in range, below k or not
cell-range : (below : Bool) (z : ℤ) → cond below (out_of_range z) (not_zero_z z) ≡ false → out_of_range z ≡ false
cell-range true z e = e
cell-range false z e = ap out_of_range (same z (pos 0) e)

module _ (t : Table) (s : State) (h : Fits t s) where
  fits-parts : ((some 32 (cell_bad t.k s.cells) || beyond s.waiting t.n) ≡ false)
      × (beyond s.faults t.n ≡ false)
  unfolding state_bad
  fits-parts = or_false_both (some 32 (cell_bad t.k s.cells) || beyond s.waiting t.n) (beyond s.faults t.n)
      h.good

  pub fits-cell : (c : ℕ) → c < 32 → cell_bad t.k s.cells c ≡ false
  fits-cell c l =
      some_false 32 (cell_bad t.k s.cells)
      (or_false_both (some 32 (cell_bad t.k s.cells)) (beyond s.waiting t.n) fits-parts.0).0 c l

  -- a waiting rule, and one with a fault mark, is one of the table's
  pub fits-waiting : Below t.n s.waiting
  fits-waiting =
      beyond-below t.n s.waiting h.waiting
      (or_false_both (some 32 (cell_bad t.k s.cells)) (beyond s.waiting t.n) fits-parts.0).1

  pub fits-faults : Below t.n s.faults
  fits-faults = beyond-below t.n s.faults h.faults fits-parts.1

  pub fits-range : InRange s.cells
  fits-range =
      record {
        long = h.long;
        each = λ c.
            ⊎_elim (λ l. cell-range (ltb c t.k) (at s.cells c) (fits-cell c l))
            (λ l. ap out_of_range (get_or-eq_default s.cells (pos 0) (subst (λ (n : ℕ). n ≤ c) (sym h.long) l)))
            (lt-or_ge c 32);
      }

  -- "Cells from k up are 0."
  pub fits-rest : (c : ℕ) → c < 32 → t.k ≤ c → at s.cells c ≡ pos 0
  fits-rest c l m =
      same (at s.cells c) (pos 0)
      (sym (ap (λ (b : Bool). cond b (out_of_range (at s.cells c)) (not_zero_z (at s.cells c)))
      (le-ltb c t.k m)) ∙ fits-cell c l)

-- the parts together
pub fits_by : (t : Table) (s : State) → length s.cells ≡ 32 → s.waiting < 2 ^ 32 → s.faults < 2 ^ 32
    → ((c : ℕ) → c < 32 → cell_bad t.k s.cells c ≡ false) → Below t.n s.waiting → Below t.n s.faults
    → Fits t s
unfolding state_bad
fits_by t s l w f cells a b =
    record {
      long = l;
      waiting = w;
      faults = f;
      good =
          ap₂ ◌||◌ (ap₂ ◌||◌ (some-none 32 (cell_bad t.k s.cells) cells) (below-beyond t.n s.waiting a))
          (below-beyond t.n s.faults b);
    }

-- ---- kept
module _ (t : Table) (s : State) (h : Fits t s) where
  pub rested-fits : (r : ℕ) → Fits t (rested s r)
  unfolding rested
  rested-fits r =
      fits_by t (rested s r) h.long (mask_of-lt 32 (λ x. waits s x && not (eqb x r))) h.faults (fits-cell t s h)
      (mask_of-below t.n (λ x. waits s x && not (eqb x r))
      (λ x e. (fits-waiting t s h).lt x (and_true_both (waits s x) (not (eqb x r)) e).0))
      (fits-faults t s h)

  pub marked-fits : (r : ℕ) → r < t.n → Fits t (marked s r)
  unfolding marked
  marked-fits r l =
      fits_by t (marked s r) h.long h.waiting (mask_of-lt 32 (λ x. has s.faults x || eqb x r)) (fits-cell t s h)
      (fits-waiting t s h)
      (mask_of-below t.n (λ x. has s.faults x || eqb x r)
      (λ x e.
      ⊎_elim ((fits-faults t s h).lt x) (λ q. subst (λ (y : ℕ). y < t.n) (sym (eqb-true x r q)) l)
      (or_true_cases (has s.faults x) (eqb x r) e)))

  pub woken-fits : (after : List ℤ) → length after ≡ 32 → ((c : ℕ) → c < 32 → cell_bad t.k after c ≡ false)
      → Fits t (stored_and_woken t s after)
  unfolding stored_and_woken wakes
  woken-fits after l good =
      let f : ℕ → Bool = λ x. waits s x || wakes t s.cells after x in
      fits_by t (stored_and_woken t s after) l (mask_of-lt 32 f) h.faults good
      (mask_of-below t.n f
      (λ x e.
      ⊎_elim ((fits-waiting t s h).lt x)
      (λ q.
      ltb-true x t.n
      (and_true_both (ltb x t.n) (some 32 (λ c. watches (rule_at t x) c && changes s.cells after c)) q).0)
      (or_true_cases (waits s x) (wakes t s.cells after x) e)))
      (fits-faults t s h)

  -- an amount in range, in a cell below k
  fine : (k c : ℕ) (z : ℤ) → c < k → out_of_range z ≡ false → cond (ltb c k) (out_of_range z) (not_zero_z z) ≡ false
  fine k c z l e =
      ap₂ (λ (a b : Bool). cond a b (not_zero_z z)) (lt-ltb c k l) e

  -- cells with one amount set, and with all targets stored
  pub set-good : (i : ℕ) (v : ℤ) → i < t.k → out_of_range v ≡ false → (c : ℕ) → c < 32
      → cell_bad t.k (set s.cells i v) c ≡ false
  set-good i v l e c m =
      subst (λ (z : ℤ). cond (ltb c t.k) (out_of_range z) (not_zero_z z) ≡ false)
      (sym (at_set s.cells i c v (subst (λ (n : ℕ). c < n) (sym h.long) m)))
      (pick (eqb c i) refl)
    where
      pick : (b : Bool) → eqb c i ≡ b
          → cond (ltb c t.k) (out_of_range (cond b v (at s.cells c))) (not_zero_z (cond b v (at s.cells c)))
          ≡ false
      pick true q = fine t.k c v (subst (λ (y : ℕ). y < t.k) (sym (eqb-true c i q)) l) e
      pick false q = fits-cell t s h c m

  pub stored-good : (r : Rule) → ((j : ℕ) → j < r.a → (assign_at r j).target < t.k) → any_out r s.cells ≡ false
      → (c : ℕ) → c < 32 → cell_bad t.k (stored r s.cells) c ≡ false
  unfolding any_out
  stored-good r targets e c m =
      stored-all r.assigns s.cells (λ z. cond (ltb c t.k) (out_of_range z) (not_zero_z z) ≡ false) c
      (subst (λ (n : ℕ). c < n) (sym h.long) m) (fits-cell t s h c m) r.a
      (λ j l q.
      fine t.k c (value_of (assign_at r j) s.cells) (subst (λ (y : ℕ). y < t.k) (sym q) (targets j l))
      (some_false r.a (λ j. out_of_range (value_of (assign_at r j) s.cells)) e j l))
