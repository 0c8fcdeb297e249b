-- Runs of bytes one after another.
use mathlib.Core.Path.{◌≡◌, refl, sym, ap, ap₂, ◌∙◌}
use mathlib.Core.List.{List, ◌++◌, append_assoc, append-nil}
use Prim.Native.Nat.{ℕ, zero, suc, ◌+◌, ◌-◌, ◌*◌, ◌≤◌, ◌<◌}
use native.Mathlib.Nat.{add-zero, add-suc, mul-zero, mul-suc}
use native.Mathlib.Numerals.{add-one}
use native.Mathlib.Omega.{arith}
use lib.ListN.{length, replicate, length-append, replicate-append-replicate}
use borrow.Author.Count.{below_more}
use Rattle.little.specs.Put.{put}
use Rattle.little.proofs.PutLaws.{put_next}
use Rattle.little.proofs.StandsLaws.{Stands, stands-nil, stands-append, stands-left, stands-right}
use Rattle.little.specs.Joined.{joined}

pub joined-more : (n : ℕ) (f : ℕ → List ℕ) → joined (n + 1) f ≡ joined n f ++ f n
unfolding joined
joined-more n f = rw add-one refl

-- one run more, written where the first n end
pub put-joined : (d : List ℕ) (at : ℕ) (f : ℕ → List ℕ) (n : ℕ) {l m : List ℕ} → l ≡ put d at (joined n f)
    → at + length (joined n f) ≤ length d → (p : ℕ) → p ≡ at + length (joined n f) → m ≡ put l p (f n)
    → m ≡ put d at (joined (n + 1) f)
put-joined d at f n e fits p q g =
    put_next d at (joined n f) e fits p q (f n) g ∙ ap (put d at) (sym (joined-more n f))

-- runs of w bytes each
pub length-joined : (w n : ℕ) (f : ℕ → List ℕ) → ((j : ℕ) → length (f j) ≡ w) → length (joined n f) ≡ w * n
unfolding joined
length-joined w zero f e = rw mul-zero refl
length-joined w (suc n) f e = rw (length-append, length-joined w n f e, e n, mul-suc) refl

-- k runs more, all of zeros
zeros-more : (w t k : ℕ) (f : ℕ → List ℕ) → ((j : ℕ) → t ≤ j → j < t + k → f j ≡ replicate w 0)
    → joined (t + k) f ≡ joined t f ++ replicate (w * k) 0
unfolding joined
zeros-more w t zero f z = rw (add-zero, mul-zero) (sym (append-nil (joined t f)))
zeros-more w t (suc k) f z =
    ap (λ (n : ℕ). joined n f) (add-suc t k)
    ∙ ap₂ ◌++◌ (zeros-more w t k f (λ j g m. z j g (omega arith))) (z (t + k) (omega arith) (omega arith))
    ∙ append_assoc (joined t f) (replicate (w * k) 0) (replicate w 0)
    ∙ ap (λ (l : List ℕ). joined t f ++ l) (replicate-append-replicate (w * k) w 0)
    ∙ ap (λ (n : ℕ). joined t f ++ replicate n 0) (sym (mul-suc w k))

-- n runs of which those from t up are zeros
pub joined-rest : (w n t : ℕ) (f : ℕ → List ℕ) → t ≤ n → ((j : ℕ) → t ≤ j → j < n → f j ≡ replicate w 0)
    → joined n f ≡ joined t f ++ replicate (w * (n - t)) 0
joined-rest w n t f l z =
    let e : n ≡ t + (n - t) = omega arith in
    ap (λ (k : ℕ). joined k f) e ∙ zeros-more w t (n - t) f (λ j g m. z j g (omega arith))

-- they stand at a place exactly when each stands at its own
module _ (s : List ℕ) (i : ℕ) (f : ℕ → List ℕ) where
  pub stands-joined : i ≤ length s → (n : ℕ) → ((j : ℕ) → j < n → Stands s (i + length (joined j f)) (f j))
      → Stands s i (joined n f)
  unfolding joined
  stands-joined l zero h = stands-nil s i l
  stands-joined l (suc n) h =
      stands-append s i (joined n f) (f n) (stands-joined l n (λ j g. h j (omega arith))) (h n (omega arith))

  pub stands-each : (n : ℕ) → Stands s i (joined n f) → (j : ℕ) → j < n → Stands s (i + length (joined j f)) (f j)
  unfolding joined
  stands-each zero h j l = absurd (omega arith)
  stands-each (suc n) h j l =
      below_more (λ (k : ℕ). Stands s (i + length (joined k f)) (f k)) n
      (stands-each n (stands-left s i (joined n f) (f n) h))
      (stands-right s i (joined n f) (f n) h)
      j
      (rw add-one l)
