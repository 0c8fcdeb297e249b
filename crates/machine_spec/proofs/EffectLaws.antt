-- The step's effect, as laws: the next state, part by part.
use mathlib.Core.Path.{◌≡◌, refl, sym, ap, ◌∙◌}
use mathlib.Core.Bool.{Bool, true, false, not, cond, ◌&&◌, ◌||◌, and-true, and-false, or-false}
use mathlib.Core.List.{List}
use Prim.Native.Nat.{ℕ, ◌<◌}
use native.Mathlib.Nat.{le_trans}
use lib.Dec.{ltb, eqb}
use lib.IntN.{ℤ}
use borrow.Author.Tests.{lt-ltb}
use Rattle.mask.specs.Search.{some}
use Rattle.mask.proofs.SearchLaws.{Found, some_intro, some-elim, some-none, and_true_both, same_test}
use Rattle.mask.specs.Mask.{has}
use Rattle.rule.specs.Uses.{watches}
use Rattle.table.specs.Table.{Table, rule_at}
use Rattle.table.specs.Check.{Sound}
use Rattle.table.proofs.SoundLaws.{parts}
use Rattle.rule_sums.specs.Sums.{at}
use Rattle.rule_act.specs.Amounts.{any_false, any_out, stored}
use Rattle.rule_act.specs.RuleActInner.{changes}
use Rattle.rule_act.proofs.AmountsLaws.{length-stored}
use Rattle.rule_act.proofs.ActsLaws.{overflows, acted}
use Rattle.rule_sums.proofs.PenceLaws.{alike}
use Rattle.rule.proofs.CellsBelowLaws.{watches-below, targets-below}
use Rattle.machine_spec.specs.declared.State.{State}
use Rattle.machine_spec.specs.State.{Fits, waits}
use Rattle.machine_spec.proofs.StateLaws.{rested-fits, marked-fits, woken-fits, stored-good}
use Rattle.machine_spec.specs.Step.{rested, marked, wakes, stored_and_woken, effect}
use Rattle.mask.proofs.MaskBelowLaws.{has-mask_of}

-- ---- Fits is kept

pub effect-fits : (t : Table) (s : State) (r : ℕ) → Sound t → Fits t s → r < t.n → Fits t (effect t s r)
unfolding effect
effect-fits t s r sd h l = pick (any_false (rule_at t r) s.cells) (any_out (rule_at t r) s.cells) refl
  where
    q : Fits t (rested s r)
    q = rested-fits t s h r

    pick : (a b : Bool) → any_out (rule_at t r) s.cells ≡ b
        → Fits t (cond a (rested s r) (cond b (marked (rested s r) r)
        (stored_and_woken t (rested s r) (stored (rule_at t r) s.cells))))
    pick true b e = q
    pick false true e = marked-fits t (rested s r) q r l
    pick false false e =
        woken-fits t (rested s r) q (stored (rule_at t r) s.cells)
        (length-stored (rule_at t r).assigns s.cells (rule_at t r).a ∙ h.long)
        (stored-good t s h (rule_at t r) (targets-below t.n t.k (rule_at t r) ((parts t sd).rules r l).cells) e)

-- ---- the next state, part by part

rested-waits : (s : State) (r x : ℕ) → x < 32 → waits (rested s r) x ≡ (waits s x && not (eqb x r))
unfolding rested
rested-waits s r x l = has-mask_of (λ x. waits s x && not (eqb x r)) x l

-- cells that hold what they held wake nobody
wakes-none : (t : Table) (cells : List ℤ) (x : ℕ) → wakes t cells cells x ≡ false
unfolding wakes
wakes-none t cells x =
    ap (λ (b : Bool). ltb x t.n && b)
    (some-none 32 (λ c. watches (rule_at t x) c && changes cells cells c)
    (λ c l. ap (λ (b : Bool). watches (rule_at t x) c && b) (alike (at cells c)) ∙ and-false (watches (rule_at t x) c)))
    ∙ and-false (ltb x t.n)

module _ (t : Table) (s : State) (r : ℕ) where
  -- the amounts are those that the rule's action leaves
  pub cells-after : (effect t s r).cells ≡ acted (rule_at t r) s.cells
  unfolding effect rested marked stored_and_woken
  cells-after = pick (any_false (rule_at t r) s.cells) (any_out (rule_at t r) s.cells)
    where
      pick : (a b : Bool)
          → (cond a (rested s r) (cond b (marked (rested s r) r)
          (stored_and_woken t (rested s r) (stored (rule_at t r) s.cells)))).cells
          ≡ cond (not a && not b) (stored (rule_at t r) s.cells) s.cells
      pick true b = refl
      pick false true = refl
      pick false false = refl

  -- who waits: those that waited but r, and those that watch a cell whose value now differs
  pub waits-after : (x : ℕ) → x < 32
      → waits (effect t s r) x ≡ ((waits s x && not (eqb x r)) || wakes t s.cells (acted (rule_at t r) s.cells) x)
  unfolding effect rested marked stored_and_woken
  waits-after x l = pick (any_false (rule_at t r) s.cells) (any_out (rule_at t r) s.cells)
    where
      after : List ℤ
      after = stored (rule_at t r) s.cells

      quiet : waits (rested s r) x ≡ ((waits s x && not (eqb x r)) || wakes t s.cells s.cells x)
      quiet =
          rested-waits s r x l ∙ sym (or-false (waits s x && not (eqb x r)))
          ∙ ap (λ (b : Bool). (waits s x && not (eqb x r)) || b) (sym (wakes-none t s.cells x))

      pick : (a b : Bool)
          → waits (cond a (rested s r) (cond b (marked (rested s r) r) (stored_and_woken t (rested s r) after))) x
          ≡ ((waits s x && not (eqb x r)) || wakes t s.cells (cond (not a && not b) after s.cells) x)
      pick true b = quiet
      pick false true = quiet
      pick false false =
          has-mask_of (λ x. waits (rested s r) x || wakes t s.cells after x) x l
          ∙ ap (λ (b : Bool). b || wakes t s.cells after x) (rested-waits s r x l)

  -- the fault marks: those there were, and r's where it fails
  pub faults-after : (x : ℕ) → x < 32
      → has (effect t s r).faults x ≡ (has s.faults x || (eqb x r && overflows (rule_at t r) s.cells))
  unfolding effect rested marked stored_and_woken
  faults-after x l = pick (any_false (rule_at t r) s.cells) (any_out (rule_at t r) s.cells)
    where
      none : has s.faults x ≡ (has s.faults x || (eqb x r && false))
      none = sym (ap (λ (b : Bool). has s.faults x || b) (and-false (eqb x r)) ∙ or-false (has s.faults x))

      pick : (a b : Bool)
          → has (cond a (rested s r) (cond b (marked (rested s r) r)
          (stored_and_woken t (rested s r) (stored (rule_at t r) s.cells)))).faults x
          ≡ (has s.faults x || (eqb x r && (not a && b)))
      pick true b = none
      pick false true =
          has-mask_of (λ x. has s.faults x || eqb x r) x l
          ∙ ap (λ (b : Bool). has s.faults x || b) (sym (and-true (eqb x r)))
      pick false false = none

-- ---- who waits, by the sets

-- only the cells below k matter
pub wakes-below : (t : Table) → Sound t → (c d : List ℤ) (x : ℕ) → x < t.n
    → wakes t c d x ≡ some t.k (λ y. watches (rule_at t x) y && changes c d y)
unfolding wakes
wakes-below t sd c d x l = ap (λ (b : Bool). b && some 32 f) (lt-ltb x t.n l)
    ∙ same_test (some 32 f) (some t.k f) there back
  where
    f : ℕ → Bool
    f y = watches (rule_at t x) y && changes c d y

    there : some 32 f ≡ true → some t.k f ≡ true
    there e =
        let w : Found 32 f = some-elim 32 f e in
        some_intro t.k f w.at
        (watches-below t.n t.k (rule_at t x) ((parts t sd).rules x l).cells w.at w.lt
        (and_true_both (watches (rule_at t x) w.at) (changes c d w.at) w.is).0)
        w.is

    back : some t.k f ≡ true → some 32 f ≡ true
    back e =
        let w : Found t.k f = some-elim t.k f e in
        some_intro 32 f w.at (le_trans w.lt (parts t sd).sizes.cells) w.is
