-- Triggering and commuting: commuting is mutual, and a rule whose masks are empty triggers nothing, is triggered by none and commutes with
-- all.
use mathlib.Core.Path.{◌≡◌, refl, sym, ap, ◌∙◌}
use mathlib.Core.Bool.{Bool, true, false, not, ◌&&◌, ◌||◌, and_comm, or-true, and-or_distrib_left}
use Prim.Native.Nat.{ℕ, zero, suc}
use lib.Bits.{bit_or}
use lib.Dec.{eqb}
use lib.ListN.{get_or}
use borrow.Author.Tests.{eq-eqb, ne_eqb, eqb-true, not-true}
use Rattle.mask.specs.Search.{some}
use Rattle.mask.proofs.SearchLaws.{some_same, same_test, and_true_both}
use Rattle.mask.specs.Mask.{has, meet}
use Rattle.mask.proofs.MaskLaws.{meet-zero}
use Rattle.mask.proofs.BitsLaws.{has-or}
use Rattle.analysis_pairs.specs.declared.Masks.{Masks}
use Rattle.analysis_pairs.specs.RuleMasks.{may_trigger, writes_into, commute}

-- ---- sets that meet

pub meet_comm : (a b : ℕ) → meet a b ≡ meet b a
unfolding meet
meet_comm a b = some_same 32 (λ i. has a i && has b i) (λ i. has b i && has a i) (λ i l. and_comm (has a i) (has b i))

pub meet-none : (a : ℕ) → meet a 0 ≡ false
meet-none a = meet_comm a 0 ∙ meet-zero a

shuffle : (a b c d : Bool) → ((a || b) || (c || d)) ≡ ((a || c) || (b || d))
shuffle true b c d = refl
shuffle false true c d = sym (or-true c)
shuffle false false c d = refl

some_or : (n : ℕ) (f g : ℕ → Bool) → some n (λ i. f i || g i) ≡ (some n f || some n g)
unfolding some
some_or zero f g = refl
some_or (suc n) f g = ap (λ (b : Bool). (f n || g n) || b) (some_or n f g) ∙ shuffle (f n) (g n) (some n f) (some n g)

pub meet-or : (a b c : ℕ) → meet a (bit_or b c) ≡ (meet a b || meet a c)
unfolding meet
meet-or a b c =
    some_same 32 (λ i. has a i && has (bit_or b c) i) (λ i. has a i && has b i || has a i && has c i)
    (λ i l. ap (λ (x : Bool). has a i && x) (has-or b c i) ∙ and-or_distrib_left (has a i) (has b i) (has c i))
    ∙ some_or 32 (λ i. has a i && has b i) (λ i. has a i && has c i)

pub eqb_comm : (a b : ℕ) → eqb a b ≡ eqb b a
eqb_comm a b =
    same_test (eqb a b) (eqb b a) (λ e. eq-eqb b a (sym (eqb-true a b e))) (λ e. eq-eqb a b (sym (eqb-true b a e)))

-- ---- commuting

swap : (e a b c d : Bool) → (e || (not a && not b && not c && not d)) ≡ (e || (not b && not a && not d && not c))
swap true a b c d = refl
swap false true true c d = refl
swap false true false c d = refl
swap false false true c d = refl
swap false false false c d = and_comm (not c) (not d)

-- neither may trigger the other, and neither writes into the other
abbrev pub free : Masks → ℕ → ℕ → Bool
free m r s = not (may_trigger m r s) && not (may_trigger m s r) && not (writes_into m r s) && not (writes_into m s r)

pub commute-sym : (m : Masks) (r s : ℕ) → commute m r s ≡ commute m s r
unfolding commute
commute-sym m r s =
    swap (eqb r s) (may_trigger m r s) (may_trigger m s r) (writes_into m r s) (writes_into m s r)
    ∙ ap (λ (e : Bool). e || free m s r) (eqb_comm r s)

-- a rule that may trigger another does not commute with it
pub triggers-clash : (m : Masks) (r s : ℕ) → (r ≡ s → ⊥) → may_trigger m r s ≡ true → commute m r s ≡ false
unfolding commute
triggers-clash m r s ne e = rw (ne_eqb r s ne, e)

-- ---- rules with empty masks: they trigger nothing, nothing triggers them, and they commute with all

pub quiet : (m : Masks) (r s : ℕ) → get_or m.writes r 0 ≡ 0 → may_trigger m r s ≡ false
unfolding may_trigger
quiet m r s e = ap (meet (get_or m.watch s 0)) e ∙ meet-none (get_or m.watch s 0)

pub deaf : (m : Masks) (r s : ℕ) → get_or m.watch s 0 ≡ 0 → may_trigger m r s ≡ false
unfolding may_trigger
deaf m r s e = ap (λ (x : ℕ). meet x (get_or m.writes r 0)) e ∙ meet-zero (get_or m.writes r 0)

pub absent-commutes : (m : Masks) (r s : ℕ) → get_or m.watch s 0 ≡ 0 → get_or m.reads s 0 ≡ 0 → get_or m.writes s 0 ≡ 0
    → commute m r s ≡ true
unfolding commute writes_into
absent-commutes m r s a b c =
    let x : meet (get_or m.writes r 0) 0 ≡ false = meet-none (get_or m.writes r 0) in
    let y : meet 0 (get_or m.reads r 0) ≡ false = meet-zero (get_or m.reads r 0) in
    let z : meet 0 (get_or m.writes r 0) ≡ false = meet-zero (get_or m.writes r 0) in
    rw (deaf m r s a, quiet m s r c, b, c, x, y, z) (or-true (eqb r s))

-- ---- what commuting says of two different rules

pub record Apart (m : Masks) (r s : ℕ) : Type 0 where
  pub may : may_trigger m r s ≡ false
  pub back : may_trigger m s r ≡ false
  pub writes : writes_into m r s ≡ false
  pub writes-back : writes_into m s r ≡ false

pub commute-apart : (m : Masks) (r s : ℕ) → (r ≡ s → ⊥) → commute m r s ≡ true → Apart m r s
unfolding commute
commute-apart m r s ne e =
    let h : free m r s ≡ true = sym (ap (λ (x : Bool). x || free m r s) (ne_eqb r s ne)) ∙ e in
    let p =
    and_true_both (not (may_trigger m r s) && not (may_trigger m s r) && not (writes_into m r s))
    (not (writes_into m s r)) h in
    let q = and_true_both (not (may_trigger m r s) && not (may_trigger m s r)) (not (writes_into m r s)) p.0 in
    let t = and_true_both (not (may_trigger m r s)) (not (may_trigger m s r)) q.0 in
    record {
      may = not-true (may_trigger m r s) t.0;
      back = not-true (may_trigger m s r) t.1;
      writes = not-true (writes_into m r s) q.1;
      writes-back = not-true (writes_into m s r) p.1;
    }
