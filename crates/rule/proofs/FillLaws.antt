-- An array of N slots of which the first n are filled and the rest hold d: "In memory, slots past a count are all zero."
use mathlib.Core.Path.{◌≡◌, refl, ap, ap₂, sym, ◌∙◌, subst}
use mathlib.Core.Bool.{Bool, false}
use mathlib.Core.Logic.{⊎_elim}
use mathlib.Core.List.{List, [], ◌∷◌, ◌++◌}
use Prim.Native.Nat.{ℕ, zero, suc, ◌+◌, ◌-◌, ◌<◌, ◌≤◌}
use native.Mathlib.Nat.{le_trans, add-zero, zero-add}
use native.Mathlib.Numerals.{add-one}
use native.Mathlib.Omega.{arith}
use lib.ListN.{length, set, take, drop, replicate, length-drop, length-append, length-replicate, get_or, get_or-replicate, get_or-append, get_or-eq_default}
use lib.Seq.{set_at, append_snoc, get_or-append-add, get_or_at, ext_get_or, get_or-take, get_or-drop, length-take-le}
use Rattle.std.proofs.lemmas.List.{drop-replicate}
use Rattle.std.specs.Array.{IsFromFnResultFrom, IsFromFnResult}
use denote.Param.Members.{Mut, Called}
use lib.Dec.{ltb}
use borrow.Author.Count.{below_more}
use borrow.Author.Tests.{le-ltb}
use Rattle.mask.specs.Search.{some}
use Rattle.mask.proofs.SearchLaws.{some_same, some-cut, lt-or_ge}
use Rattle.rule.specs.Fill.{upto, filled}

module _ {A : Type 0} where
  pub length-upto : (n : ℕ) (f : ℕ → A) → length (upto n f) ≡ n
  length-upto zero f = refl
  length-upto (suc n) f = omega (arith, length-upto n f, length-append (upto n f) (f n ∷ []))

  pub length-filled : (N : ℕ) (d : A) (f : ℕ → A) (n : ℕ) → n ≤ N → length (filled N d f n) ≡ N
  length-filled N d f n h = rw (length-append, length-upto, length-replicate) (omega arith)

  -- the next slot is filled
  pub filled_more : (N : ℕ) (d : A) (f : ℕ → A) (n : ℕ) → n < N → set (filled N d f n) n (f n) ≡ filled N d f (n + 1)
  filled_more N d f n h =
      let k = N - (n + 1) in
      let e : N - n ≡ suc k = omega arith in
      ap (λ (j : ℕ). set (upto n f ++ replicate j d) n (f n)) e
      ∙ set_at (upto n f) d (replicate k d) (f n) n (length-upto n f)
      ∙ sym (append_snoc (upto n f) (f n) (replicate k d))
      ∙ ap (λ (j : ℕ). upto j f ++ replicate k d) (sym (add-one n))

  pub get_or-upto : (n : ℕ) (f : ℕ → A) (d : A) (i : ℕ) → i < n → get_or (upto n f) i d ≡ f i
  get_or-upto zero f d i h = absurd (omega arith)
  get_or-upto (suc n) f d i h =
      below_more (λ (k : ℕ). get_or (upto n f ++ (f n ∷ [])) k d ≡ f k) n
      (λ k g. get_or-append (upto n f) (f n ∷ []) d k (omega (arith, length-upto n f)) ∙ get_or-upto n f d k g)
      (get_or_at (upto n f) (f n) [] d n (length-upto n f))
      i
      (rw add-one h)

  pub upto-same : (n : ℕ) (f g : ℕ → A) → ((i : ℕ) → i < n → f i ≡ g i) → upto n f ≡ upto n g
  upto-same zero f g h = refl
  upto-same (suc n) f g h = rw (upto-same n f g (λ i l. h i (omega arith)), h n (omega arith))

  -- a filled slot
  pub get_or-filled : (N : ℕ) (d : A) (f : ℕ → A) (n : ℕ) (e : A) (i : ℕ) → i < n → get_or (filled N d f n) i e ≡ f i
  get_or-filled N d f n e i h =
      get_or-append (upto n f) (replicate (N - n) d) e i (omega (arith, length-upto n f)) ∙ get_or-upto n f e i h

  -- a slot that is left
  pub get_or-left : (N : ℕ) (d : A) (f : ℕ → A) (n : ℕ) (e : A) (i : ℕ) → n ≤ i → i < N → get_or (filled N d f n) i e ≡ d
  get_or-left N d f n e i h g =
      let k : i ≡ length (upto n f) + (i - n) = omega (arith, length-upto n f) in
      ap (λ (j : ℕ). get_or (filled N d f n) j e) k
      ∙ get_or-append-add (upto n f) (replicate (N - n) d) (i - n) e
      ∙ get_or-replicate (N - n) (i - n) d e (omega arith)

  -- N slots whose first n are f 0, f 1, .. and whose others hold d; o stands past the end
  pub slots_are : (N : ℕ) (d o : A) (f : ℕ → A) (n : ℕ) (xs : List A) → n ≤ N → length xs ≡ N
      → ((j : ℕ) → j < n → f j ≡ get_or xs j o) → ((j : ℕ) → n ≤ j → j < N → get_or xs j o ≡ d) → filled N d f n ≡ xs
  slots_are N d o f n xs l e first rest =
      ext_get_or o (filled N d f n) xs (length-filled N d f n l ∙ sym e)
      (λ j h.
      ⊎_elim (λ g. get_or-filled N d f n o j g ∙ first j g)
      (λ g. let k : j < N = omega (arith, length-filled N d f n l) in get_or-left N d f n o j g k ∙ sym (rest j g k))
      (lt-or_ge j n))

  -- the same of a list that a call gives
  pub is_filled : (N : ℕ) (d : A) (f : ℕ → A) (n : ℕ) (q : List A) → n ≤ N → length q ≡ N
      → ((i : ℕ) → i < n → get_or q i d ≡ f i) → ((i : ℕ) → n ≤ i → get_or q i d ≡ d) → q ≡ filled N d f n
  is_filled N d f n q few long below beyond =
      sym (slots_are N d d f n q few long (λ i l. sym (below i l)) (λ i l h. beyond i l))

  -- what `array::from_fn` gives, of a closure that stays as it is and gives f i of i
  module _ {F : Type 0} (g : Mut F (ℕ × Unit {0}) A) (s : F) (f : ℕ → A)
      (gives : (i : ℕ) (x : A) (t : F) → Called g s (i, tt) x t → (t ≡ s) × (x ≡ f i)) where
    called : (d : A) (q : List A) (i n : ℕ) (t : F) → t ≡ s → IsFromFnResultFrom g t q i n → (j : ℕ) → j < n
        → get_or q (i + j) d ≡ f (i + j)
    called d q i zero t e r j l = absurd (omega arith)
    called d q i (suc n) t e (u, x, at, call, rest) zero l =
        rw add-zero (at.1 d ∙ (gives i x u (subst (λ (p : F). Called g p (i, tt) x u) e call)).1)
    called d q i (suc n) t e (u, x, at, call, rest) (suc j) l =
        let k : i + suc j ≡ i + 1 + j = omega arith in
        let same = (gives i x u (subst (λ (p : F). Called g p (i, tt) x u) e call)).0 in
        rw k (called d q (i + 1) n u same rest j (omega arith))

    pub from_fn_filled : (N : ℕ) (d : A) (q : List A) → IsFromFnResult g s q N → q ≡ filled N d f N
    from_fn_filled N d q r =
        is_filled N d f N q (omega arith) r.long (λ i l. let h : get_or q (0 + i) d ≡ f (0 + i) = called d q 0 N s refl r.each i l in rw zero-add at h)
        (λ i l. get_or-eq_default q d {n = i} (omega (arith, r.long)))

  -- a part of a list and the slots left after it
  pub part_filled : (N : ℕ) (d : A) (s : List A) (at n : ℕ) → at + n ≤ length s
      → take n (drop at s) ++ drop n (replicate N d) ≡ filled N d (λ j. get_or s (at + j) d) n
  part_filled N d s at n fits =
      let f : ℕ → A = λ j. get_or s (at + j) d in
      let l : length (take n (drop at s)) ≡ n = length-take-le n (drop at s) (omega (arith, length-drop at s)) in
      ap₂ ◌++◌
      (ext_get_or d (take n (drop at s)) (upto n f) (l ∙ sym (length-upto n f))
      (λ j h.
      get_or-take n (drop at s) j d (omega arith) ∙ get_or-drop at s j d ∙ sym (get_or-upto n f d j (omega arith))))
      (drop-replicate n N d)

  -- what every filled slot has, and d, every slot has
  pub each-filled : (P : A → Type 0) (N : ℕ) (d : A) (f : ℕ → A) (n : ℕ) (e : A) → P d → ((j : ℕ) → j < n → P (f j))
      → (j : ℕ) → j < N → P (get_or (filled N d f n) j e)
  each-filled P N d f n e none each j l =
      ⊎_elim (λ h. subst P (sym (get_or-filled N d f n e j h)) (each j h)) (λ h. subst P (sym (get_or-left N d f n e j h l)) none)
      (lt-or_ge j n)

  -- a search through filled slots is one through what fills them
  pub some-filled : (N : ℕ) (d : A) (f : ℕ → A) (n c : ℕ) (p : A → Bool) → c ≤ n
      → some c (λ j. p (get_or (filled N d f n) j d)) ≡ some c (λ j. p (f j))
  some-filled N d f n c p few =
      some_same c (λ j. p (get_or (filled N d f n) j d)) (λ j. p (f j)) (λ j l. ap p (get_or-filled N d f n d j (le_trans l few)))

  -- and one through all slots, with c of them counted, where a slot that is left is not picked
  pub slots_filled : (N : ℕ) (d : A) (f : ℕ → A) (n c : ℕ) (p : Bool → A → Bool) → n ≤ N → c ≤ n → p false d ≡ false
      → some N (λ j. p (ltb j c) (get_or (filled N d f n) j d)) ≡ some n (λ j. p (ltb j c) (f j))
  slots_filled N d f n c p room few none =
      some-cut N n (λ j. p (ltb j c) (get_or (filled N d f n) j d)) (λ j. p (ltb j c) (f j)) room
      (λ j l. ap (p (ltb j c)) (get_or-filled N d f n d j l))
      (λ j g l. ap₂ p (le-ltb j c (le_trans few g)) (get_or-left N d f n d j g l) ∙ none)
