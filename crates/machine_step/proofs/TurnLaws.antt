-- The step with the row of watch masks is the paper's step on the table.
use mathlib.Core.Path.{◌≡◌, refl, sym, ap, ◌∙◌, subst}
use mathlib.Core.Bool.{Bool, true, false, not, cond, ◌&&◌, ◌||◌}
use mathlib.Core.Logic.{⊎_elim}
use mathlib.Core.List.{List}
use Prim.Native.Nat.{ℕ, ◌≤◌, ◌<◌, ◌^◌}
use native.Mathlib.Nat.{le_trans}
use native.Mathlib.Omega.{arith}
use lib.Dec.{ltb, eqb}
use lib.IntN.{ℤ}
use lib.ListN.{length, get_or}
use borrow.Author.Tests.{lt-ltb, le-ltb}
use Rattle.mask.specs.Search.{some}
use Rattle.mask.proofs.SearchLaws.{some-none, lt-or_ge}
use Rattle.mask.specs.Mask.{has, meet, mask_of}
use Rattle.mask.proofs.BitsLaws.{has-zero}
use Rattle.mask.proofs.LoopsLaws.{mask_of-lt, mask_of-unique}
use Rattle.mask.proofs.MaskBelowLaws.{has-mask_of, is-mask_of, meet-mask_of}
use Rattle.rule.specs.declared.Rule.{Rule}
use Rattle.rule.proofs.FillLaws.{get_or-filled, get_or-left}
use Rattle.rule.specs.Uses.{watches}
use Rattle.table.specs.Table.{Table, rule_at}
use Rattle.table.specs.TableInner.{watches_of, Sizes, slot_start, rule_from}
use Rattle.little.specs.Little.{byte_at}
use Rattle.table.specs.Check.{Sound}
use Rattle.table.proofs.SoundLaws.{parts}
use Rattle.table.specs.Memory.{table_from}
use Rattle.table.proofs.ImageLaws.{rule-from}
use Rattle.rule_act.specs.RuleActInner.{changes, Steppable, changed_cells, Slot, Stored}
use Rattle.rule_act.specs.Amounts.{any_false, any_out, stored}
use Rattle.machine_spec.specs.declared.State.{State}
use Rattle.machine_spec.specs.State.{state_bad, waits}
use Rattle.machine_spec.proofs.AmountsInRangeLaws.{steppable-at}
use Rattle.machine_spec.specs.Step.{rested, marked, wakes, stored_and_woken, effect}
use Rattle.machine_step.specs.MachineStepInner.{state_bad_by, wakes_by, stored_and_woken_by, effect_by}

-- a mask by a test is known by the test below 32
pub mask-same : (f g : ℕ → Bool) → ((x : ℕ) → x < 32 → f x ≡ g x) → mask_of 32 f ≡ mask_of 32 g
mask-same f g e = mask_of-unique 32 g (mask_of 32 f) (mask_of-lt 32 f) (λ x l. has-mask_of f x l ∙ e x l)

module _ (t : Table) (few : t.n ≤ 32) where
  wakes-by : (before after : List ℤ) (x : ℕ) → x < 32 → wakes_by (watches_of t) before after x ≡ wakes t before after x
  unfolding wakes
  wakes-by before after x l = ⊎_elim mine past (lt-or_ge x t.n)
    where
      mask : ℕ → ℕ
      mask i = (rule_at t i).watch

      test : ℕ → Bool
      test c = watches (rule_at t x) c && changes before after c

      mine : x < t.n → wakes_by (watches_of t) before after x ≡ (ltb x t.n && some 32 test)
      mine h =
          ap (λ (m : ℕ). some 32 (λ c. has m c && changes before after c)) (get_or-filled 32 0 mask t.n 0 x h)
          ∙ sym (ap (λ (b : Bool). b && some 32 test) (lt-ltb x t.n h))

      past : t.n ≤ x → wakes_by (watches_of t) before after x ≡ (ltb x t.n && some 32 test)
      past h =
          ap (λ (m : ℕ). some 32 (λ c. has m c && changes before after c)) (get_or-left 32 0 mask t.n 0 x h l)
          ∙ some-none 32 (λ c. has 0 c && changes before after c)
          (λ c k. ap (λ (b : Bool). b && changes before after c) (has-zero c))
          ∙ sym (ap (λ (b : Bool). b && some 32 test) (le-ltb x t.n h))

  pub woken-by : (s : State) (after : List ℤ) → stored_and_woken_by (watches_of t) s after ≡ stored_and_woken t s after
  unfolding stored_and_woken_by stored_and_woken
  woken-by s after =
      ap with-waiting
      (mask-same (λ x. waits s x || wakes_by (watches_of t) s.cells after x) (λ x. waits s x || wakes t s.cells after x)
      (λ x l. ap (λ (b : Bool). waits s x || b) (wakes-by s.cells after x l)))
    where
      with-waiting : ℕ → State
      with-waiting m = record { cells = after; waiting = m; faults = s.faults }

  pub effect-by : (s : State) (r : ℕ) → effect_by (rule_at t r) (watches_of t) s r ≡ effect t s r
  unfolding effect_by effect
  effect-by s r =
      ap
      (λ (x : State).
      cond (any_false (rule_at t r) s.cells) (rested s r)
      (cond (any_out (rule_at t r) s.cells) (marked (rested s r) r) x))
      (woken-by (rested s r) (stored (rule_at t r) s.cells))

-- ---- what the parts of a step leave

-- the rules that watch a cell of the mask of those that differ wait
pub woken-is : (row : List ℕ) (s : State) (after : List ℤ) (m q : ℕ) → m ≡ changed_cells s.cells after
    → q ≡ mask_of 32 (λ x. waits s x || meet (get_or row x 0) m)
    → record s { cells = after; waiting = q } ≡ stored_and_woken_by row s after
unfolding stored_and_woken_by
woken-is row s after m q e h =
    ap (λ (w : ℕ). record s { cells = after; waiting = w })
    (h
    ∙ mask-same (λ x. waits s x || meet (get_or row x 0) m) (λ x. waits s x || wakes_by row s.cells after x)
    (λ x l.
    ap (λ (b : Bool). waits s x || b)
    (ap (meet (get_or row x 0)) e ∙ meet-mask_of (get_or row x 0) (changes s.cells after))))

-- r, which has stopped waiting, has a false test; it fails; it stores
module _ (one : Rule) (row : List ℕ) (s : State) (r w : ℕ) (small : w < 2 ^ 32)
    (rest : (x : ℕ) → has w x ≡ (waits s x && not (eqb x r))) where
  stopped : record s { waiting = w } ≡ rested s r
  unfolding rested
  stopped = ap (λ (m : ℕ). record s { waiting = m }) (is-mask_of w (λ x. waits s x && not (eqb x r)) small rest)

  pub turn_false : any_false one s.cells ≡ true → record s { waiting = w } ≡ effect_by one row s r
  unfolding effect_by
  turn_false e = rw e stopped

  module _ (tests : any_false one s.cells ≡ false) where
    pub turn-out : any_out one s.cells ≡ true → (f : ℕ) → f < 2 ^ 32
        → ((x : ℕ) → has f x ≡ (has s.faults x || eqb x r))
        → record s { waiting = w; faults = f } ≡ effect_by one row s r
    unfolding effect_by marked
    turn-out e f l h =
        rw (tests, e, ← stopped)
        (ap (λ (m : ℕ). record s { waiting = w; faults = m })
        (is-mask_of f (λ x. has s.faults x || eqb x r) l h))

    pub turn-stored : any_out one s.cells ≡ false → (after : List ℤ) (m q : ℕ)
        → Stored one s.cells one.a after m → q ≡ mask_of 32 (λ x. has w x || meet (get_or row x 0) m)
        → record s { cells = after; waiting = q } ≡ effect_by one row s r
    unfolding effect_by
    turn-stored e after m q h k =
        rw (tests, e, ← stopped)
        (woken-is row (record s { waiting = w }) after m q h.mask k
        ∙ ap (stored_and_woken_by row (record s { waiting = w })) h.cells)

-- ---- of a table where it lies

-- 11 by the two counts
pub bad-by : (s : List ℕ) (st : State) → state_bad_by (byte_at s 1) (byte_at s 2) st ≡ state_bad (table_from s) st
unfolding state_bad table_from
bad-by s st = refl

pub few-at : (s : List ℕ) → Sound (table_from s) → byte_at s 1 ≤ 32
unfolding table_from
few-at s sound = (parts (table_from s) sound).sizes.rules

module _ (s : List ℕ) (long : length s ≡ 9092) (sound : Sound (table_from s)) where
  pub sizes-at : Sizes s (byte_at s 1) (byte_at s 2)
  unfolding table_from
  sizes-at =
      record {
        long = long;
        rules = refl;
        cells = refl;
        few-rules = few-at s sound;
        few-cells = (parts (table_from s) sound).sizes.cells;
      }

  module _ (r : ℕ) (l : r < (table_from s).n) where
    pub below_32 : r < 32
    below_32 = le_trans l (parts (table_from s) sound).sizes.rules

    -- a rule of a sound table can be stepped where it lies
    pub slot_at : Slot s (slot_start r)
    slot_at =
        record {
          inside = omega (arith, below_32);
          ready = subst Steppable (rule-from s r below_32) (steppable-at (table_from s) sound r l);
        }

    -- and its step there is the paper's
    pub turn_is : (st : State) → effect_by (rule_from s r) (watches_of (table_from s)) st r ≡ effect (table_from s) st r
    turn_is st =
        ap (λ (one : Rule). effect_by one (watches_of (table_from s)) st r) (sym (rule-from s r below_32))
        ∙ effect-by (table_from s) (parts (table_from s) sound).sizes.rules st r
