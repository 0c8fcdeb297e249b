-- What a loop over 0..n has done: a search for the first, a list of which the entries below i are new, a set of the numbers below i that
-- pass a test, a union of rows.
use mathlib.Core.Path.{◌≡◌, refl, sym, ap, ap₂, ◌∙◌, subst}
use mathlib.Core.Logic.{⊎_elim}
use mathlib.Core.Bool.{Bool, true, false, not, ◌&&◌, ◌||◌, cond, and_comm, or-false, or_assoc}
use mathlib.Core.List.{List}
use Prim.Native.Nat.{ℕ, zero, suc, ◌+◌, ◌*◌, ◌^◌, ◌≤◌, ◌<◌}
use native.Mathlib.Nat.{add_comm, one-mul, pow-suc, lt_irrefl, le-suc, le_trans, eq-or-lt_of_le, not-suc-le-zero}
use native.Mathlib.Numerals.{add-one}
use native.Mathlib.Omega.{arith}
use lib.Dec.{eqb, ltb, lit<}
use lib.ListN.{length, get_or, set, replicate, length-set, get_or-eq_default}
use lib.Seq.{get_or-set_same, get_or-set_other}
use borrow.Author.Count.{below_more}
use borrow.Author.Tests.{lt-ltb, le-ltb, ltb-true, ltb-false, eq-eqb, ne_eqb}
use Rattle.mask.specs.Search.{some, least}
use Rattle.mask.proofs.SearchLaws.{lt-or_ge, some_but, some_same, some-none, least_by, least-none}
use Rattle.mask.specs.Mask.{has, mask_of}
use Rattle.mask.proofs.BitsLaws.{has-zero, has-or, has_bit, ext}
use lib.Bits.{bit_or, or_shifted_r}
use Rattle.mask.specs.MaskInner.{Upto, named}

-- ---- a search for the first: f holds at no number below i

pub record Passed (f : ℕ → Bool) (i : ℕ) : Type 0 where
  pub none : (x : ℕ) → x < i → f x ≡ false

pub passed_none : {f : ℕ → Bool} → Passed f 0
passed_none = record { none = λ x l. absurd (not-suc-le-zero l) }

pub passed-more : {f : ℕ → Bool} {i : ℕ} → Passed f i → f i ≡ false → Passed f (i + 1)
passed-more {f} {i} h e = record { none = below_more (λ x. f x ≡ false) i h.none e }

pub passed_here : {f : ℕ → Bool} {i n : ℕ} → Passed f i → i < n → f i ≡ true → i ≡ least n f
passed_here {f} {i} {n} h l e = least_by n f i (record { bound = le_trans (le-suc i) l; is = λ m. e; first = h.none })

pub passed-all : {f : ℕ → Bool} {i n : ℕ} → Passed f i → n ≤ i → n ≡ least n f
passed-all {f} {i} {n} h l = sym (least-none n f (λ x m. h.none x (le_trans m l)))

module _ (P : ℕ → ℕ → Type 0) (p : List ℕ) where
  pub upto-none : Upto P p 0 p
  upto-none = record { len = refl; done = λ x l. absurd (not-suc-le-zero l); rest = λ x l. refl }

  pub upto-keep : (i : ℕ) (q : List ℕ) → Upto P p i q → P i (get_or q i 0) → Upto P p (i + 1) q
  upto-keep i q u e = record { len = u.len; done = below_more _ i u.done e; rest = λ x l. u.rest x (omega arith) }

  pub upto-store : (i v : ℕ) (q : List ℕ) → i < length p → Upto P p i q → P i v → Upto P p (i + 1) (set q i v)
  upto-store i v q h u e =
      record {
        len = length-set q i v ∙ u.len;
        done = below_more _ i (λ x l. subst (P x) (sym (get_or-set_other q i x v 0 (λ z. lt_irrefl x (subst (λ (y : ℕ). x < y) (sym z) l)))) (u.done x l)) (subst (P i) (sym (get_or-set_same q i v 0 (subst (λ (y : ℕ). i < y) (sym u.len) h))) e);
        rest = λ x l. get_or-set_other q i x v 0 (λ z. lt_irrefl i (omega arith)) ∙ u.rest x (omega arith);
      }

  pub upto_all : (i : ℕ) (q : List ℕ) → Upto P p i q → length p ≤ i → ((x : ℕ) → length p ≤ x → get_or p x 0 ≡ 0 → P x (get_or p x 0)) → (x : ℕ) → P x (get_or q x 0)
  upto_all i q u l out x = ⊎_elim (λ h. u.done x h) (λ h. subst (P x) (sym (u.rest x h)) (out x (le_trans l h) (get_or-eq_default p 0 (le_trans l h)))) (lt-or_ge x i)

-- ---- a row of zeros, wherever it is read

pub zeros-at : (n r : ℕ) → ◌≡◌ {A = ℕ} (get_or (replicate n 0) r 0) 0
zeros-at zero r = refl
zeros-at (suc n) zero = refl
zeros-at (suc n) (suc r) = zeros-at n r

-- ---- a set, number by number: a holds the numbers below i that pass f

abbrev pub Picked : (ℕ → Bool) → ℕ → ℕ → Type 0
Picked f i a = (s : ℕ) → has a s ≡ (ltb s i && f s)

picked_none : (f : ℕ → Bool) → Picked f 0 0
picked_none f s = has-zero s ∙ sym (ap (λ (b : Bool). b && f s) (le-ltb s 0 (omega arith)))

picked_skip : (f : ℕ → Bool) (i a : ℕ) → Picked f i a → f i ≡ false → Picked f (i + 1) a
picked_skip f i a h e s = h s ∙ pick (ltb s i) refl
  where
    pick : (b : Bool) → ltb s i ≡ b → (ltb s i && f s) ≡ (ltb s (i + 1) && f s)
    pick true q = ap (λ (b : Bool). b && f s) (q ∙ sym (lt-ltb s (i + 1) (omega (arith, ltb-true s i q))))
    pick false q = ap (λ (b : Bool). b && f s) q ∙ ⊎_elim
        (λ z. sym (ap₂ ◌&&◌ (lt-ltb s (i + 1) (omega arith)) (subst (λ (x : ℕ). f x ≡ false) z e)))
        (λ l. sym (ap (λ (b : Bool). b && f s) (le-ltb s (i + 1) (omega arith))))
        (eq-or-lt_of_le (ltb-false s i q))

picked_take : (f : ℕ → Bool) (i a b : ℕ) → Picked f i a → f i ≡ true → ((k : ℕ) → has b k ≡ (has a k || eqb k i)) → Picked f (i + 1) b
picked_take f i a b h e w s = w s ∙ ap (λ (x : Bool). x || eqb s i) (h s) ∙ pick (ltb s i) refl
  where
    pick : (t : Bool) → ltb s i ≡ t → (ltb s i && f s || eqb s i) ≡ (ltb s (i + 1) && f s)
    pick true q =
        ap₂ (λ (x y : Bool). x && f s || y) q (ne_eqb s i (λ z. lt_irrefl s (omega (arith, ltb-true s i q)))) ∙ or-false (f s)
        ∙ sym (ap (λ (x : Bool). x && f s) (lt-ltb s (i + 1) (omega (arith, ltb-true s i q))))
    pick false q = ap (λ (x : Bool). x && f s || eqb s i) q ∙ ⊎_elim
        (λ z. eq-eqb s i (sym z) ∙ sym (ap₂ ◌&&◌ (lt-ltb s (i + 1) (omega arith)) (subst (λ (x : ℕ). f x ≡ true) z e)))
        (λ l. ne_eqb s i (λ z. lt_irrefl i (omega arith)) ∙ sym (ap (λ (x : Bool). x && f s) (le-ltb s (i + 1) (omega arith))))
        (eq-or-lt_of_le (ltb-false s i q))

pub picked_all : (f : ℕ → Bool) (n a : ℕ) → Picked f n a → (s : ℕ) → s < n → has a s ≡ f s
picked_all f n a h s l = h s ∙ ap (λ (b : Bool). b && f s) (lt-ltb s n l)

pub picked_every : (f : ℕ → Bool) (n a : ℕ) → Picked f n a → ((s : ℕ) → n ≤ s → f s ≡ false) → (s : ℕ) → has a s ≡ f s
picked_every f n a h out s = ⊎_elim (picked_all f n a h s) (λ l. h s ∙ ap (λ (b : Bool). b && f s) (le-ltb s n l) ∙ sym (out s l)) (lt-or_ge s n)

-- ---- a union of rows: what a has got and what `left` still names is what m names

abbrev pub Gathering : List ℕ → ℕ → ℕ → ℕ → Type 0
Gathering rows m left a = (s : ℕ) → (has a s || some 32 (named rows left s)) ≡ some 32 (named rows m s)

pub gathering_start : (rows : List ℕ) (m : ℕ) → Gathering rows m m 0
gathering_start rows m s = ap (λ (b : Bool). b || some 32 (named rows m s)) (has-zero s)

apart : (a b c : Bool) → (a && b && c) ≡ (a && c && b)
apart true b c = and_comm b c
apart false b c = refl

pub gathering_turn : (rows : List ℕ) (m left left' a x : ℕ) → x < 32 → has left x ≡ true
    → ((k : ℕ) → has left' k ≡ (has left k && not (eqb k x)))
    → Gathering rows m left a → Gathering rows m left' (bit_or a (get_or rows x 0))
gathering_turn rows m left left' a x l e w g s =
    ap (λ (b : Bool). b || some 32 (named rows left' s)) (has-or a (get_or rows x 0) s)
    ∙ or_assoc (has a s) (has (get_or rows x 0) s) (some 32 (named rows left' s))
    ∙ ap (λ (b : Bool). has a s || b) (sym split)
    ∙ g s
  where
    split : some 32 (named rows left s) ≡ (has (get_or rows x 0) s || some 32 (named rows left' s))
    split =
        some_but 32 (named rows left s) x l
        ∙ ap₂ (λ (b c : Bool). b && has (get_or rows x 0) s || c) e
        (some_same 32 (λ y. named rows left s y && not (eqb y x)) (named rows left' s)
        (λ y k.
        apart (has left y) (has (get_or rows y 0) s) (not (eqb y x))
        ∙ sym (ap (λ (b : Bool). b && has (get_or rows y 0) s) (w y))))

pub gathering_end : (rows : List ℕ) (m a : ℕ) → Gathering rows m 0 a → (s : ℕ) → has a s ≡ some 32 (named rows m s)
gathering_end rows m a g s =
    sym (or-false (has a s))
    ∙ ap (λ (b : Bool). has a s || b)
    (sym (some-none 32 (named rows 0 s) (λ x l. ap (λ (b : Bool). b && has (get_or rows x 0) s) (has-zero x))))
    ∙ g s

-- ---- a mask by a test: `mask_of n f` is the only mask of n bits with these members

pub mask_of-lt : (n : ℕ) (f : ℕ → Bool) → mask_of n f < 2 ^ n
unfolding mask_of
mask_of-lt zero f = lit< tt
mask_of-lt (suc n) f = pick (f n) (mask_of-lt n f)
  where
    pick : (b : Bool) → mask_of n f < 2 ^ n → mask_of n f + cond b (2 ^ n) 0 < 2 ^ suc n
    pick true h = omega (arith, pow-suc 2 n)
    pick false h = omega (arith, pow-suc 2 n)

none : (a : ℕ) → a + 0 ≡ a
none a = omega arith

pub mask_of_picked : (n : ℕ) (f : ℕ → Bool) → Picked f n (mask_of n f)
unfolding mask_of
mask_of_picked zero f = picked_none f
mask_of_picked (suc n) f = subst (λ (k : ℕ). Picked f k (mask_of n f + cond (f n) (2 ^ n) 0)) (add-one n) (pick (f n) refl (mask_of_picked n f))
  where
    pick : (b : Bool) → f n ≡ b → Picked f n (mask_of n f) → Picked f (n + 1) (mask_of n f + cond b (2 ^ n) 0)
    pick true e h = picked_take f n (mask_of n f) (mask_of n f + 2 ^ n) h e (λ k. ap (λ (x : ℕ). has (mask_of n f + x) k) (sym (one-mul (2 ^ n))) ∙ ap (λ (x : ℕ). has x k) (add_comm (mask_of n f) (1 * 2 ^ n) ∙ sym (or_shifted_r 1 n (mask_of n f) (mask_of-lt n f))) ∙ has-or (mask_of n f) (1 * 2 ^ n) k ∙ ap (λ (b : Bool). has (mask_of n f) k || b) (ap (λ (x : ℕ). has x k) (one-mul (2 ^ n)) ∙ has_bit n k))
    pick false e h = subst (Picked f (n + 1)) (sym (none (mask_of n f))) (picked_skip f n (mask_of n f) h e)

pub mask_of-unique : (n : ℕ) (f : ℕ → Bool) (m : ℕ) → m < 2 ^ n → ((i : ℕ) → i < n → has m i ≡ f i) → m ≡ mask_of n f
mask_of-unique n f m l h = ext n m (mask_of n f) l (mask_of-lt n f) (λ i k. h i k ∙ sym (picked_all f n (mask_of n f) (mask_of_picked n f) i k))
