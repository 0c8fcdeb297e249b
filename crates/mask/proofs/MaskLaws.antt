-- The laws of sets as masks: what each function of the crate computes, in terms of `has`.
use mathlib.Core.Path.{◌≡◌, refl, sym, ap, ap₂, ◌∙◌, subst}
use mathlib.Core.Logic.{⊎_elim}
use mathlib.Core.Bool.{Bool, true, false, not, cond, ◌&&◌, ◌||◌, and-false, false≢true}
use Prim.Native.Nat.{ℕ, zero, suc, ◌*◌, ◌/◌, ◌%◌, ◌^◌, ◌≤◌, ◌<◌}
use native.Mathlib.Nat.{le_antisymm, div-one, lt_of_le_of_lt, mod-lt, one-mul, le_trans, lt_irrefl, eq-or-lt_of_le}
use native.Mathlib.Omega.{arith}
use lib.Dec.{eqb, leb, lit<}
use lib.Count.{count_trailing_zeros, under}
use lib.Pow.{pow_pos, shl_exact}
use lib.Bits.{bit_and, bit_or, bit_xor, or_add_and, and_le_r, and_le_l, or_lt}
use borrow.Author.Tests.{le-leb, leb-true, leb-false, eq-eqb, ne_eqb}
use Rattle.mask.specs.Search.{some, least}
use Rattle.mask.proofs.SearchLaws.{Found, some-elim, some-none, some_false, and_true_both, Least, least-is, least-same, same_test, lt-or_ge}
use Rattle.mask.specs.Mask.{has, meet, beyond}
use Rattle.mask.specs.MaskInner.{lowest}
use Rattle.mask.proofs.BitsLaws.{has-and, has-or, has-xor, unlike, has-zero, has-high, has-suc, has_bit, has-lt, below, ext, digit}

-- ---- a subset is the smaller number: what makes a set that grows end

or_ge_l : (a b : ℕ) → a ≤ bit_or a b
or_ge_l a b = omega (arith, or_add_and a b, and_le_r a b)

pub subset_le : (a b : ℕ) → a < 2 ^ 32 → b < 2 ^ 32 → ((i : ℕ) → has a i ≡ true → has b i ≡ true) → a ≤ b
subset_le a b ha hb h =
    subst (λ (x : ℕ). a ≤ x)
    (ext 32 (bit_or a b) b (or_lt 32 a b ha hb) hb (λ i l. has-or a b i ∙ pick (has a i) (has b i) (h i)))
    (or_ge_l a b)
  where
    pick : (x y : Bool) → (x ≡ true → y ≡ true) → (x || y) ≡ y
    pick true y f = sym (f refl)
    pick false y f = refl

-- two masks with the same members are equal
pub ext_iff : (a b : ℕ) → a < 2 ^ 32 → b < 2 ^ 32
    → ((i : ℕ) → has a i ≡ true → has b i ≡ true) → ((i : ℕ) → has b i ≡ true → has a i ≡ true) → a ≡ b
ext_iff a b ha hb f g = le_antisymm (subset_le a b ha hb f) (subset_le b a hb ha g)

-- a mask with no member is 0
pub no_member : (m : ℕ) → m < 2 ^ 32 → ((i : ℕ) → i < 32 → has m i ≡ false) → m ≡ 0
no_member m h f = ext 32 m 0 h (pow_pos 32) (λ i l. f i l ∙ sym (has-zero i))

-- ---- `m | (1 << i)` and `(m | b) ^ b`: with and without

pub one_shl : (i : ℕ) → i < 32 → (1 * 2 ^ i) % 2 ^ 32 ≡ 2 ^ i
one_shl i h = shl_exact 1 i 32 (lit< tt) (omega arith) ∙ one-mul (2 ^ i)

-- and of a u64, of which 32 is no limit
pub wide-shl : (n : ℕ) → n ≤ 32 → (1 * 2 ^ n) % 2 ^ 64 ≡ 2 ^ n
wide-shl n h = shl_exact 1 n 64 (lit< tt) (omega arith) ∙ one-mul (2 ^ n)

pub has-shl : (i : ℕ) → i < 32 → (k : ℕ) → has ((1 * 2 ^ i) % 2 ^ 32) k ≡ eqb k i
has-shl i h k = rw (one_shl i h) (has_bit i k)

pub has-with : (m i : ℕ) → i < 32 → (k : ℕ) → has (bit_or m ((1 * 2 ^ i) % 2 ^ 32)) k ≡ (has m k || eqb k i)
has-with m i h k = has-or m ((1 * 2 ^ i) % 2 ^ 32) k ∙ ap (λ (b : Bool). has m k || b) (has-shl i h k)

taken-off : (x y : Bool) → unlike (x || y) y ≡ (x && not y)
taken-off true true = refl
taken-off true false = refl
taken-off false true = refl
taken-off false false = refl

-- the difference of two sets
pub has_minus : (a b k : ℕ) → has (bit_xor (bit_or a b) b) k ≡ (has a k && not (has b k))
has_minus a b k =
    has-xor (bit_or a b) b k ∙ ap (λ (x : Bool). unlike x (has b k)) (has-or a b k) ∙ taken-off (has a k) (has b k)

pub has-without : (m i : ℕ) → i < 32 → (k : ℕ)
    → has (bit_xor (bit_or m ((1 * 2 ^ i) % 2 ^ 32)) ((1 * 2 ^ i) % 2 ^ 32)) k ≡ (has m k && not (eqb k i))
has-without m i h k =
    has_minus m ((1 * 2 ^ i) % 2 ^ 32) k ∙ ap (λ (b : Bool). has m k && not b) (has-shl i h k)

-- one member fewer is a smaller number
pub fewer : (m r i : ℕ) → m < 2 ^ 32 → r < 2 ^ 32 → has m i ≡ true
    → ((k : ℕ) → has r k ≡ (has m k && not (eqb k i))) → r < m
fewer m r i hm hr e w =
    ⊎_elim
    (λ q. absurd (false≢true (sym gone ∙ ap (λ (x : ℕ). has x i) q ∙ e)))
    (λ l. l)
    (eq-or-lt_of_le (subset_le r m hr hm (λ k h. (and_true_both (has m k) (not (eqb k i)) (sym (w k) ∙ h)).0)))
  where
    gone : has r i ≡ false
    gone = w i ∙ ap (λ (b : Bool). has m i && not b) (eq-eqb i i refl) ∙ and-false (has m i)

-- ---- `a & b != 0`: meets

pub meet_law : (a b : ℕ) → a < 2 ^ 32 → b < 2 ^ 32 → not (eqb (bit_and a b) 0) ≡ meet a b
unfolding meet
meet_law a b ha hb = pick (some 32 (λ i. has a i && has b i)) refl
  where
    pick : (t : Bool) → some 32 (λ i. has a i && has b i) ≡ t → not (eqb (bit_and a b) 0) ≡ t
    pick true e =
        let w : Found 32 (λ i. has a i && has b i) = some-elim 32 (λ i. has a i && has b i) e in
        ap not
        (ne_eqb (bit_and a b) 0
        (λ z. false≢true (sym (ap (λ (x : ℕ). has x w.at) z ∙ has-zero w.at) ∙ has-and a b w.at ∙ w.is)))
    pick false e =
        ap not
        (eq-eqb (bit_and a b) 0
        (no_member (bit_and a b) (lt_of_le_of_lt (and_le_l a b) ha) (λ i l. has-and a b i ∙ some_false 32 (λ i. has a i && has b i) e i l)))

pub meet-zero : (m : ℕ) → meet 0 m ≡ false
unfolding meet
meet-zero m = some-none 32 (λ i. has 0 i && has m i) (λ i l. ap (λ (b : Bool). b && has m i) (has-zero i))

-- ---- `(1 << n) <= m`: beyond n

pub beyond_law : (m n : ℕ) → m < 2 ^ 32 → leb (2 ^ n) m ≡ beyond m n
unfolding beyond
beyond_law m n hm =
    same_test (leb (2 ^ n) m) (some 32 (λ i. has m i && leb n i)) there back
  where
    there : leb (2 ^ n) m ≡ true → some 32 (λ i. has m i && leb n i) ≡ true
    there e = pick (some 32 (λ i. has m i && leb n i)) refl
      where
        high : some 32 (λ i. has m i && leb n i) ≡ false → (i : ℕ) → n ≤ i → has m i ≡ false
        high q i l = member (has m i) refl
          where
            member : (t : Bool) → has m i ≡ t → has m i ≡ false
            member true h =
                absurd (false≢true
                (sym (some_false 32 (λ i. has m i && leb n i) q i (has-lt 32 i hm h)) ∙ ap₂ ◌&&◌ h (le-leb n i l)))
            member false h = h

        pick : (t : Bool) → some 32 (λ i. has m i && leb n i) ≡ t → some 32 (λ i. has m i && leb n i) ≡ true
        pick true q = q
        pick false q = absurd (lt_irrefl m (le_trans (below 32 n m hm (high q)) (leb-true (2 ^ n) m e)))

    back : some 32 (λ i. has m i && leb n i) ≡ true → leb (2 ^ n) m ≡ true
    back e = pick (leb (2 ^ n) m) refl
      where
        w : Found 32 (λ i. has m i && leb n i)
        w = some-elim 32 (λ i. has m i && leb n i) e

        p : (has m w.at ≡ true) × (leb n w.at ≡ true)
        p = and_true_both (has m w.at) (leb n w.at) w.is

        pick : (t : Bool) → leb (2 ^ n) m ≡ t → leb (2 ^ n) m ≡ true
        pick true q = q
        pick false q =
            absurd (false≢true (sym (has-high n w.at (leb-false (2 ^ n) m q) (leb-true n w.at p.1)) ∙ p.0))

-- nothing beyond n: a member is below n
pub not_beyond : (m n : ℕ) → m < 2 ^ 32 → beyond m n ≡ false → m < 2 ^ n
not_beyond m n hm e = leb-false (2 ^ n) m (beyond_law m n hm ∙ e)

-- ---- `trailing_zeros`: the lowest member

under_digit : (d : ℕ) → d < 2 → (t : ℕ) → under d t ≡ cond (eqb d 1) 0 (suc t)
under_digit = digit (λ d. (t : ℕ) → under d t ≡ cond (eqb d 1) 0 (suc t)) (λ t. refl) (λ t. refl)

pub zeros-least : (k m : ℕ) → count_trailing_zeros k m ≡ least k (has m)
unfolding count_trailing_zeros least has
zeros-least zero m = refl
zeros-least (suc k) m =
    ap (under (m % 2)) (zeros-least k (m / 2) ∙ least-same k (has (m / 2)) (λ i. has m (suc i)) (λ i l. sym (has-suc m i)))
    ∙ under_digit (m % 2) (mod-lt m (lit< tt)) (least k (λ i. has m (suc i)))
    ∙ ap (λ (x : ℕ). cond (eqb (x % 2) 1) 0 (suc (least k (λ i. has m (suc i))))) (sym (div-one m))

pub lowest-is : (m : ℕ) → Least 32 (has m) (lowest m)
unfolding lowest
lowest-is m = least-is 32 (has m)

pub lowest_bound : (m : ℕ) → lowest m ≤ 32
lowest_bound m = (lowest-is m).bound

-- a mask that is not 0 has one
pub lowest-has : (m : ℕ) → m < 2 ^ 32 → (m ≡ 0 → ⊥) → (lowest m < 32) × (has m (lowest m) ≡ true)
lowest-has m h ne =
    ⊎_elim
    (λ l. (l, (lowest-is m).is l))
    (λ l. absurd (ne (no_member m h (λ i k. (lowest-is m).first i (le_trans k l)))))
    (lt-or_ge (lowest m) 32)

pub lowest_in : (m : ℕ) → m < 2 ^ 32 → (m ≡ 0 → ⊥) → lowest m < 32
lowest_in m h ne = (lowest-has m h ne).0

pub lowest_member : (m x : ℕ) → x ≡ lowest m → m < 2 ^ 32 → (m ≡ 0 → ⊥) → (x < 32) × (has m x ≡ true)
lowest_member m x e h ne = rw e (lowest-has m h ne)
