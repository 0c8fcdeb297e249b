-- Sets within the numbers below n, and masks made by a test.
use mathlib.Core.Path.{◌≡◌, refl, sym, ap, ◌∙◌}
use mathlib.Core.Bool.{Bool, true, false, ◌&&◌}
use Prim.Native.Nat.{ℕ, ◌<◌, ◌^◌}
use lib.Dec.{ltb, leb}
use borrow.Author.Tests.{lt-leb}
use Rattle.mask.specs.Search.{some}
use Rattle.mask.proofs.SearchLaws.{some-none, some_same, and_true_both}
use Rattle.mask.specs.Mask.{has, meet, beyond, mask_of}
use Rattle.mask.proofs.BitsLaws.{has-lt}
use Rattle.mask.proofs.MaskLaws.{not_beyond}
use Rattle.mask.proofs.LoopsLaws.{mask_of_picked, mask_of-unique, picked_all}

-- every member is below n
pub record Below (n m : ℕ) : Type 0 where
  pub lt : (x : ℕ) → has m x ≡ true → x < n

pub beyond-below : (n m : ℕ) → m < 2 ^ 32 → beyond m n ≡ false → Below n m
beyond-below n m h e = record { lt = λ x. has-lt n x (not_beyond m n h e) }

pub below-beyond : (n m : ℕ) → Below n m → beyond m n ≡ false
unfolding beyond
below-beyond n m h = some-none 32 (λ x. has m x && leb n x) (λ x l. pick (has m x) x (h.lt x))
  where
    pick : (b : Bool) (x : ℕ) → (b ≡ true → x < n) → (b && leb n x) ≡ false
    pick true x f = lt-leb n x (f refl)
    pick false x f = refl

-- who is in a mask made by a test
pub has-mask_of : (f : ℕ → Bool) (x : ℕ) → x < 32 → has (mask_of 32 f) x ≡ f x
has-mask_of f x l = picked_all f 32 (mask_of 32 f) (mask_of_picked 32 f) x l

pub mask_of-below : (n : ℕ) (f : ℕ → Bool) → ((x : ℕ) → f x ≡ true → x < n) → Below n (mask_of 32 f)
mask_of-below n f h =
    record { lt = λ x e. h x (and_true_both (ltb x 32) (f x) (sym (mask_of_picked 32 f x) ∙ e)).1 }

-- a mask of 32 bits is known by its members
pub is-mask_of : (m : ℕ) (f : ℕ → Bool) → m < 2 ^ 32 → ((x : ℕ) → has m x ≡ f x) → m ≡ mask_of 32 f
is-mask_of m f l h = mask_of-unique 32 f m l (λ x k. h x)

-- meeting such a mask is passing the test somewhere
pub meet-mask_of : (w : ℕ) (f : ℕ → Bool) → meet w (mask_of 32 f) ≡ some 32 (λ c. has w c && f c)
unfolding meet
meet-mask_of w f =
    some_same 32 (λ c. has w c && has (mask_of 32 f) c) (λ c. has w c && f c)
    (λ c l. ap (λ (b : Bool). has w c && b) (has-mask_of f c l))
