-- The bits of a number: every operation on masks, bit by bit; two masks with the same bits are equal.
use mathlib.Core.Path.{◌≡◌, refl, sym, ap, ap₂, ◌∙◌, subst}
use mathlib.Core.Bool.{Bool, true, false, not, ◌&&◌, ◌||◌, false≢true}
use Prim.Native.Nat.{ℕ, zero, suc, ◌+◌, ◌-◌, ◌*◌, ◌/◌, ◌%◌, ◌^◌, ◌≤◌, ◌<◌, suc-le-suc}
use native.Mathlib.Nat.{pow-suc, div-one, div-lt_iff_lt-mul, lt_of_le_of_lt, div-le_self, le-add_right, mod-lt, not-suc-le-zero, le_of_suc-le-suc, one-mul, zero-lt-suc, div-add-mod', div-eq_of_lt, lt_of_lt_of_le}
use native.Mathlib.Numerals.{add-one, one-add}
use native.Mathlib.Omega.{arith}
use lib.Dec.{eqb, ltb, lit<, eqb-suc-zero, eqb-zero-suc, eqb-suc-suc}
use lib.Arith.{lt-one}
use lib.Pow.{ones_split, ones_lt, high, pow_pos, pow_mono, shr-shr, shr_lt}
use lib.Bits.{bit_and, bit_or, bit_xor, and_shr, and_mod, or_shr, or_mod, xor_shr, xor_mod, shifted_half, shifted_even}
use borrow.Author.Tests.{ltb-true, ltb-false}
use Rattle.mask.specs.Mask.{has}

-- ---- one digit

pub digit : (P : ℕ → Type 0) → P 0 → P 1 → (x : ℕ) → x < 2 → P x
digit P p q zero h = p
digit P p q (suc zero) h = q
digit P p q (suc (suc x)) h = absurd (not-suc-le-zero (le_of_suc-le-suc (le_of_suc-le-suc h)))

module _ (op : ℕ → ℕ → ℕ) (f : Bool → Bool → Bool)
    (shr : (a b k : ℕ) → op a b / 2 ^ k ≡ op (a / 2 ^ k) (b / 2 ^ k))
    (low : (a b k : ℕ) → op a b % 2 ^ k ≡ op (a % 2 ^ k) (b % 2 ^ k))
    (t00 : eqb (op 0 0) 1 ≡ f false false) (t01 : eqb (op 0 1) 1 ≡ f false true)
    (t10 : eqb (op 1 0) 1 ≡ f true false) (t11 : eqb (op 1 1) 1 ≡ f true true) where
  op_digit : (x : ℕ) → x < 2 → (y : ℕ) → y < 2 → eqb (op x y) 1 ≡ f (eqb x 1) (eqb y 1)
  op_digit =
      digit (λ x. (y : ℕ) → y < 2 → eqb (op x y) 1 ≡ f (eqb x 1) (eqb y 1))
      (digit (λ y. eqb (op 0 y) 1 ≡ f (eqb 0 1) (eqb y 1)) t00 t01)
      (digit (λ y. eqb (op 1 y) 1 ≡ f (eqb 1 1) (eqb y 1)) t10 t11)

  op_has : (a b i : ℕ) → has (op a b) i ≡ f (has a i) (has b i)
  unfolding has
  op_has a b i =
      ap (λ (x : ℕ). eqb (x % 2) 1) (shr a b i)
      ∙ ap (λ (x : ℕ). eqb x 1) (low (a / 2 ^ i) (b / 2 ^ i) 1)
      ∙ op_digit (a / 2 ^ i % 2) (mod-lt (a / 2 ^ i) (lit< tt)) (b / 2 ^ i % 2) (mod-lt (b / 2 ^ i) (lit< tt))

pub has-and : (a b i : ℕ) → has (bit_and a b) i ≡ (has a i && has b i)
has-and = op_has bit_and ◌&&◌ and_shr and_mod refl refl refl refl

pub has-or : (a b i : ℕ) → has (bit_or a b) i ≡ (has a i || has b i)
has-or = op_has bit_or ◌||◌ or_shr or_mod refl refl refl refl

abbrev pub unlike : Bool → Bool → Bool
unlike true b = not b
unlike false b = b

pub has-xor : (a b i : ℕ) → has (bit_xor a b) i ≡ unlike (has a i) (has b i)
has-xor = op_has bit_xor unlike xor_shr xor_mod refl refl refl refl

-- ---- single bits, and bits too high

pub has-zero : (i : ℕ) → has 0 i ≡ false
unfolding has
has-zero i = ap (λ (x : ℕ). eqb (x % 2) 1) (div-eq_of_lt (pow_pos i))

pub has-high : {m : ℕ} (k i : ℕ) → m < 2 ^ k → k ≤ i → has m i ≡ false
unfolding has
has-high k i h l = ap (λ (x : ℕ). eqb (x % 2) 1) (div-eq_of_lt (lt_of_lt_of_le h (pow_mono l)))

pub has-suc : (m i : ℕ) → has m (suc i) ≡ has (m / 2) i
unfolding has
has-suc m i = ap (λ (x : ℕ). eqb (m / 2 ^ x % 2) 1) (sym (one-add i)) ∙ ap (λ (x : ℕ). eqb (x % 2) 1) (sym (shr-shr m 1 i))

pub has_bit : (j i : ℕ) → has (2 ^ j) i ≡ eqb i j
unfolding has
has_bit zero zero = refl
has_bit zero (suc i) = has-suc 1 i ∙ has-zero i ∙ sym (eqb-suc-zero i)
has_bit (suc j) zero =
    ap (λ (x : ℕ). eqb (x / 1 % 2) 1) (sym (one-mul (2 ^ suc j)))
    ∙ ap (λ (x : ℕ). eqb (x % 2) 1) (div-one (1 * 2 ^ suc j))
    ∙ ap (λ (x : ℕ). eqb x 1) (shifted_even 1 j) ∙ sym (eqb-zero-suc j)
has_bit (suc j) (suc i) =
    has-suc (2 ^ suc j) i
    ∙ ap (λ (x : ℕ). has (x / 2) i) (sym (one-mul (2 ^ suc j)))
    ∙ ap (λ (x : ℕ). has x i) (shifted_half 1 j ∙ one-mul (2 ^ j)) ∙ has_bit j i ∙ sym (eqb-suc-suc i j)

pub has-lt : {m : ℕ} (k i : ℕ) → m < 2 ^ k → has m i ≡ true → i < k
has-lt {m} k i h e = pick (ltb i k) refl
  where
    pick : (b : Bool) → ltb i k ≡ b → i < k
    pick true q = ltb-true i k q
    pick false q = absurd (false≢true (sym (has-high k i h (ltb-false i k q)) ∙ e))

-- ---- two masks with the same bits are equal

half : {a : ℕ} (k : ℕ) → a < 2 ^ suc k → a / 2 < 2 ^ k
half {a} k h = shr_lt k 1 (subst (λ (x : ℕ). a < 2 ^ x) (sym (add-one k)) h)

low_digit : (a b : ℕ) → has a 0 ≡ has b 0 → a % 2 ≡ b % 2
unfolding has
low_digit a b e = go (a % 2) (mod-lt a (lit< tt)) (b % 2) (mod-lt b (lit< tt)) (sym (ap (λ (x : ℕ). eqb (x % 2) 1) (div-one a)) ∙ e ∙ ap (λ (x : ℕ). eqb (x % 2) 1) (div-one b))
  where
    go : (x : ℕ) → x < 2 → (y : ℕ) → y < 2 → eqb x 1 ≡ eqb y 1 → x ≡ y
    go =
        digit (λ x. (y : ℕ) → y < 2 → eqb x 1 ≡ eqb y 1 → x ≡ y)
        (digit (λ y. eqb 0 1 ≡ eqb y 1 → 0 ≡ y) (λ q. refl) (λ q. absurd (false≢true q)))
        (digit (λ y. eqb 1 1 ≡ eqb y 1 → 1 ≡ y) (λ q. absurd (false≢true (sym q))) (λ q. refl))

lt_of_div-zero : {m d : ℕ} → 0 < d → m / d ≡ 0 → m < d
lt_of_div-zero {m} {d} h e = subst (λ (x : ℕ). m < x) (one-mul d) ((div-lt_iff_lt-mul h).0 (subst (λ (x : ℕ). x < 1) (sym e) (lit< tt)))

pub ext : (k a b : ℕ) → a < 2 ^ k → b < 2 ^ k → ((i : ℕ) → i < k → has a i ≡ has b i) → a ≡ b
ext zero a b ha hb h = lt-one ha ∙ sym (lt-one hb)
ext (suc k) a b ha hb h =
    sym (div-add-mod' a 2)
    ∙ ap₂ (λ (x y : ℕ). x * 2 + y)
    (ext k (a / 2) (b / 2) (half k ha) (half k hb) (λ i l. sym (has-suc a i) ∙ h (suc i) (suc-le-suc l) ∙ has-suc b i))
    (low_digit a b (h 0 (zero-lt-suc k)))
    ∙ div-add-mod' b 2

-- no bit from n up: the mask is below 2 ^ n
pub has-add : (m n i : ℕ) → has (m / 2 ^ n) i ≡ has m (n + i)
unfolding has
has-add m n i = ap (λ (x : ℕ). eqb (x % 2) 1) (shr-shr m n i)

pub below : (w n m : ℕ) → m < 2 ^ w → ((i : ℕ) → n ≤ i → has m i ≡ false) → m < 2 ^ n
below w n m hm h = lt_of_div-zero (pow_pos n) (ext w (m / 2 ^ n) 0 (lt_of_le_of_lt (div-le_self m (2 ^ n)) hm) (pow_pos w) (λ i l. has-add m n i ∙ h (n + i) (le-add_right n i) ∙ sym (has-zero i)))

-- ---- all the numbers below n: `(1 << n) - 1`

odd : (p : ℕ) → 0 < p → (p * 2 - 1) % 2 ≡ 1
odd p h = omega arith

pub has-ones : (n i : ℕ) → has (2 ^ n - 1) i ≡ ltb i n
unfolding has
has-ones n i = pick (ltb i n) refl
  where
    pick : (b : Bool) → ltb i n ≡ b → has (2 ^ n - 1) i ≡ b
    pick true q =
        let l : i < n = ltb-true i n q in
        let j : ℕ = n - suc i in
        ap (λ (x : ℕ). eqb ((2 ^ x - 1) / 2 ^ i % 2) 1) (omega arith)
        ∙ ap (λ (x : ℕ). eqb (x / 2 ^ i % 2) 1) (ones_split (suc j) i)
        ∙ ap (λ (x : ℕ). eqb (x % 2) 1) (high (2 ^ suc j - 1) i (ones_lt i))
        ∙ ap (λ (x : ℕ). eqb ((x - 1) % 2) 1) (pow-suc 2 j)
        ∙ ap (λ (x : ℕ). eqb x 1) (odd (2 ^ j) (pow_pos j))
    pick false q = has-high n i (ones_lt n) (ltb-false i n q)
