-- A rule slot is not all zero exactly when one of its 284 bytes is not 0.
use mathlib.Core.Path.{◌≡◌, refl, sym, ap, ap₂, ◌∙◌, subst}
use mathlib.Core.Bool.{Bool, true, false, ◌&&◌, ◌||◌, or_comm}
use mathlib.Core.Logic.{⊎_elim}
use mathlib.Core.List.{List, [], ◌∷◌, ◌++◌}
use Prim.Native.Nat.{ℕ, ◌+◌, ◌≤◌, ◌<◌}
use native.Mathlib.Nat.{le_refl}
use native.Mathlib.Omega.{arith}
use lib.Dec.{leb}
use lib.ListN.{length, get_or, take, drop, replicate, length-drop, get_or-replicate}
use lib.Seq.{get_or-take, get_or-drop, length-take-le}
use borrow.Author.Tests.{le-leb, lt-leb, eqb-true, not-false}
use Rattle.mask.specs.Search.{some}
use Rattle.mask.proofs.SearchLaws.{some_more, some_same, some-none, some_false, least-none, lt-or_ge}
use Rattle.mask.proofs.LoopsLaws.{passed_here}
use Rattle.little.specs.Little.{byte_at}
use Rattle.little.proofs.StandsLaws.{Stands}
use Rattle.little.specs.EachByte.{Bytes}
use Rattle.rule.specs.Empty.{no_rule}
use Rattle.rule.specs.Numbers.{not_zero, forms_bad, rule_slot_bad}
use Rattle.rule_write.specs.RuleWriteInner.{slot_bytes}
use Rattle.rule_write.specs.HeldRule.{HeldRule}
use Rattle.rule_write.proofs.HeldLaws.{none-held}
use Rattle.rule_write.proofs.ReadBackLaws.{rule-read}
use Rattle.rule_write.proofs.WriteBackLaws.{rule-stands}
use Rattle.table.specs.Table.{Table, rule_at}
use Rattle.table.specs.Check.{first_slot}
use Rattle.std.specs.Option.{MatchOption}
use Rattle.std.proofs.lemmas.List.{length_push, get_or_push, get_or_append_left}
use Rattle.std.proofs.Common.{Option, Some, None}
use Rattle.table.proofs.HoldsLaws.{slot_held}
use Rattle.rule_write.proofs.SlotsLaws.{empty-rule, zero-slot}
use Rattle.table.specs.TableInner.{any_set, slot_start, rule_from}
use Rattle.table.proofs.TableTripLaws.{none-past}

-- whether one of the w bytes from a on is not 0
abbrev pub set_in : List ℕ → ℕ → ℕ → Bool
set_in s a w = some w (λ j. not_zero (byte_at s (a + j)))

-- one byte more
pub set_push : (s : List ℕ) (b : ℕ) → any_set (s ++ (b ∷ [])) ≡ (any_set s || not_zero b)
unfolding any_set
set_push s b =
    let n = length s in
    let f : ℕ → Bool = λ j. not_zero (get_or (s ++ (b ∷ [])) j 0) in
    ap (λ (k : ℕ). some k f) (length_push s b)
    ∙ (some_more n f
    ∙ (ap₂ ◌||◌ (ap not_zero (get_or_push s b 0 n refl))
    (some_same n f (λ j. not_zero (get_or s j 0)) (λ j l. ap not_zero (get_or_append_left s (b ∷ []) 0 j l)))
    ∙ or_comm (not_zero b) (some n (λ j. not_zero (get_or s j 0)))))

pub part_set : (s : List ℕ) (a w : ℕ) → a + w ≤ length s → any_set (take w (drop a s)) ≡ set_in s a w
unfolding any_set
part_set s a w l =
    let p = take w (drop a s) in
    let e : length p ≡ w = length-take-le w (drop a s) (omega (arith, length-drop a s)) in
    ap (λ (k : ℕ). some k (λ j. not_zero (get_or p j 0))) e
    ∙ some_same w (λ j. not_zero (get_or p j 0)) (λ j. not_zero (byte_at s (a + j)))
    (λ j h. ap not_zero (get_or-take w (drop a s) j 0 h ∙ get_or-drop a s j 0))

-- a slot with nothing in it is all zero
pub empty-slot : rule_slot_bad no_rule ≡ false
unfolding rule_slot_bad forms_bad some
empty-slot = refl

size-zeros : length (replicate {A = ℕ} 284 0) ≡ 284
size-zeros = refl

module _ (s : List ℕ) (b : Bytes s) (size : length s ≡ 9092) (i : ℕ) (small : i < 32) where
  zeros_stand : ((j : ℕ) → j < 284 → byte_at s (slot_start i + j) ≡ 0) → Stands s (slot_start i) (slot_bytes no_rule)
  zeros_stand z =
      rw zero-slot
      (record {
        inside = omega (arith, size-zeros);
        same = λ j l.
            let h : j < 284 = omega (arith, size-zeros) in z j h ∙ sym (get_or-replicate 284 j 0 0 h);
      })

  -- where all bytes are 0 the slot is empty, and the other way round
  there : set_in s (slot_start i) 284 ≡ false → rule_slot_bad (rule_from s i) ≡ false
  there e =
      ap rule_slot_bad
      (rule-read s (slot_start i) no_rule 8 8 16 (le_refl 8) (le_refl 8) (le_refl 16) none-held (none-past no_rule)
      (zeros_stand
      (λ j l.
      eqb-true (byte_at s (slot_start i + j)) 0
      (not-false _ (some_false 284 (λ x. not_zero (byte_at s (slot_start i + x))) e j l)))))
      ∙ empty-slot

  back : rule_slot_bad (rule_from s i) ≡ false → set_in s (slot_start i) 284 ≡ false
  back e =
      let held : HeldRule (rule_from s i) = slot_held s b i (omega arith) in
      let none : rule_from s i ≡ no_rule = empty-rule (rule_from s i) held e in
      let stands = rule-stands s b (slot_start i) 8 8 16
      (record { tests = le_refl 8; assigns = le_refl 8; letters = le_refl 16; inside = omega arith }) in
      let z : Stands s (slot_start i) (replicate 284 0) =
      subst (Stands s (slot_start i)) (ap slot_bytes none ∙ zero-slot) stands in
      some-none 284 (λ j. not_zero (byte_at s (slot_start i + j)))
      (λ j l. ap not_zero (z.same j (omega (arith, size-zeros)) ∙ get_or-replicate 284 j 0 0 l))

  pub slot-set : rule_slot_bad (rule_from s i) ≡ set_in s (slot_start i) 284
  slot-set = same_false (rule_slot_bad (rule_from s i)) (set_in s (slot_start i) 284) back there
    where
      same_false : (x y : Bool) → (x ≡ false → y ≡ false) → (y ≡ false → x ≡ false) → x ≡ y
      same_false true true f g = refl
      same_false true false f g = g refl
      same_false false y f g = sym (f refl)

-- ---- the slots past n

module _ (t : Table) where
  mine : (k : ℕ) → k < t.n → (leb t.n k && rule_slot_bad (rule_at t k)) ≡ false
  mine k l = ap (λ (v : Bool). v && rule_slot_bad (rule_at t k)) (lt-leb t.n k l)

  past : (i : ℕ) → ((k : ℕ) → t.n ≤ k → k < i → rule_slot_bad (rule_at t k) ≡ false) → (k : ℕ) → k < i
      → (leb t.n k && rule_slot_bad (rule_at t k)) ≡ false
  past i h k l = ⊎_elim (mine k) (λ m. ap (λ (v : Bool). v && rule_slot_bad (rule_at t k)) (le-leb t.n k m) ∙ h k m l) (lt-or_ge k t.n)

  -- none, or the first
  pub slots_good : ((k : ℕ) → t.n ≤ k → k < 32 → rule_slot_bad (rule_at t k) ≡ false) → first_slot t ≡ 32
  unfolding first_slot
  slots_good h = least-none 32 (λ i. leb t.n i && rule_slot_bad (rule_at t i)) (past 32 h)

  pub slot_first : (i : ℕ) → t.n ≤ i → i < 32 → rule_slot_bad (rule_at t i) ≡ true
      → ((k : ℕ) → t.n ≤ k → k < i → rule_slot_bad (rule_at t k) ≡ false) → i ≡ first_slot t
  unfolding first_slot
  slot_first i m l b h =
      passed_here {f = λ i. leb t.n i && rule_slot_bad (rule_at t i)} (record { none = past i h }) l
      (ap₂ ◌&&◌ (le-leb t.n i m) b)

  pub slot_found : (n : ℕ) → n ≡ t.n → (r : Option ℕ)
      → MatchOption r ((k : ℕ) → n ≤ k → k < 32 → rule_slot_bad (rule_at t k) ≡ false)
      (λ i. (n ≤ i) × (i < 32) × (rule_slot_bad (rule_at t i) ≡ true) × ((k : ℕ) → n ≤ k → k < i → rule_slot_bad (rule_at t k) ≡ false))
      → MatchOption r (first_slot t ≡ 32) (λ i. (i < 32) × (i ≡ first_slot t))
  slot_found n e None h = slots_good (λ k m. h k (omega arith))
  slot_found n e (Some i) h = (h.1, slot_first i (omega (arith, h.0)) h.1 h.2 (λ k m. h.3 k (omega arith)))
