-- Bytes that stand at a place in a list.
use mathlib.Core.Path.{◌≡◌, sym, ap, ◌∙◌, subst}
use mathlib.Core.List.{List, [], ◌∷◌, ◌++◌}
use Prim.Native.Nat.{ℕ, zero, suc, ◌+◌, ◌≤◌, ◌<◌}
use native.Mathlib.Nat.{add_assoc, add-zero, zero-add}
use native.Mathlib.Omega.{arith}
use lib.ListN.{length, get_or, take, drop, length-append, length-drop, get_or-append}
use lib.Seq.{get_or-append-add, get_or-take, get_or-drop, length-take-le, ext_get_or}
use Rattle.little.specs.Put.{put}
use Rattle.little.proofs.PutLaws.{length-put}

-- from i on, s has the bytes bs
pub record Stands (s : List ℕ) (i : ℕ) (bs : List ℕ) : Type 0 where
  pub inside : i + length bs ≤ length s
  pub same : (j : ℕ) → j < length bs → get_or s (i + j) 0 ≡ get_or bs j 0

module _ (s : List ℕ) where
  pub stands-nil : (i : ℕ) → i ≤ length s → Stands s i []
  stands-nil i h = record { inside = omega arith; same = λ j l. absurd (omega arith) }

  -- one byte more in front
  pub stands-cons : (i b : ℕ) (bs : List ℕ) → get_or s i 0 ≡ b → i < length s → Stands s (i + 1) bs → Stands s i (b ∷ bs)
  stands-cons i b bs e l h = record { inside = omega (arith, h.inside); same = at }
    where
      at : (j : ℕ) → j < length (b ∷ bs) → get_or s (i + j) 0 ≡ get_or (b ∷ bs) j 0
      at zero g = rw add-zero e
      at (suc j) g =
          let k : i + suc j ≡ i + 1 + j = omega arith in
          ap (λ (x : ℕ). get_or s x 0) k ∙ h.same j (omega arith)

  module _ (i : ℕ) (xs ys : List ℕ) where
    pub stands-left : Stands s i (xs ++ ys) → Stands s i xs
    stands-left h =
        record {
          inside = omega (arith, h.inside, length-append xs ys);
          same = λ j l. h.same j (omega (arith, length-append xs ys)) ∙ get_or-append xs ys 0 j l;
        }

    pub stands-right : Stands s i (xs ++ ys) → Stands s (i + length xs) ys
    stands-right h =
        record {
          inside = omega (arith, h.inside, length-append xs ys);
          same = λ j l.
              ap (λ (x : ℕ). get_or s x 0) (add_assoc i (length xs) j)
              ∙ (h.same (length xs + j) (omega (arith, length-append xs ys)) ∙ get_or-append-add xs ys j 0);
        }

  -- and the two side by side
  pub stands-append : (i : ℕ) (xs ys : List ℕ) → Stands s i xs → Stands s (i + length xs) ys → Stands s i (xs ++ ys)
  stands-append i [] ys h g = rw add-zero at g
  stands-append i (x ∷ xs) ys h g =
      let e : i + suc (length xs) ≡ i + 1 + length xs = omega arith in
      stands-cons i x (xs ++ ys)
      (ap (λ (k : ℕ). get_or s k 0) (sym (add-zero i)) ∙ h.same 0 (omega arith))
      (omega (arith, h.inside))
      (stands-append (i + 1) xs ys (stands-right i (x ∷ []) xs h) (rw e at g))

  -- the same where the first has n bytes
  module _ (i : ℕ) (xs ys : List ℕ) (n : ℕ) (e : length xs ≡ n) where
    pub stands_after : Stands s i (xs ++ ys) → Stands s (i + n) ys
    stands_after h = subst (λ (k : ℕ). Stands s (i + k) ys) e (stands-right i xs ys h)

    pub stands_then : Stands s i xs → Stands s (i + n) ys → Stands s i (xs ++ ys)
    stands_then h g = stands-append i xs ys h (subst (λ (k : ℕ). Stands s (i + k) ys) (sym e) g)

  -- four bytes side by side
  pub stands_4 : (i a b c d : ℕ) → i + 4 ≤ length s → get_or s i 0 ≡ a → get_or s (i + 1) 0 ≡ b → get_or s (i + 2) 0 ≡ c
      → get_or s (i + 3) 0 ≡ d → Stands s i (a ∷ b ∷ c ∷ d ∷ [])
  stands_4 i a b c d l ea eb ec ed =
      let at : ℕ → ℕ = λ k. get_or s k 0 in
      stands-cons i a (b ∷ c ∷ d ∷ []) ea (omega arith)
      (stands-cons (i + 1) b (c ∷ d ∷ []) eb (omega arith)
      (stands-cons (i + 1 + 1) c (d ∷ []) (ap at (omega arith) ∙ ec) (omega arith)
      (stands-cons (i + 1 + 1 + 1) d [] (ap at (omega arith) ∙ ed) (omega arith)
      (stands-nil (i + 1 + 1 + 1 + 1) (omega arith)))))

  -- what stands at the start and is as long is the whole
  pub stands-whole : (bs : List ℕ) → Stands s 0 bs → length s ≡ length bs → s ≡ bs
  stands-whole bs h e =
      ext_get_or 0 s bs e (λ i l. ap (λ (x : ℕ). get_or s x 0) (sym (zero-add i)) ∙ h.same i (omega arith))

  pub stands_self : Stands s 0 s
  stands_self = record { inside = omega arith; same = λ j l. ap (λ (x : ℕ). get_or s x 0) (zero-add j) }

-- what stands at a place is that part of the bytes
pub part_stands : (s : List ℕ) (p n : ℕ) (bs : List ℕ) → length bs ≡ n → Stands s p bs → bs ≡ take n (drop p s)
part_stands s p n bs e h =
    let l : length (take n (drop p s)) ≡ n = length-take-le n (drop p s) (omega (arith, h.inside, length-drop p s)) in
    ext_get_or 0 bs (take n (drop p s)) (e ∙ sym l)
    (λ j g. sym (get_or-take n (drop p s) j 0 (omega arith) ∙ get_or-drop p s j 0 ∙ h.same j g))

-- what was written stands where it was written
pub stands_put : (d : List ℕ) (i : ℕ) (bs : List ℕ) → i + length bs ≤ length d → Stands (put d i bs) i bs
unfolding put
stands_put d i bs fits =
    let h = take i d in
    let e : length h ≡ i = length-take-le i d (omega arith) in
    record {
      inside = rw (length-put d i bs fits) fits;
      same = λ j l.
          get_or-append (h ++ bs) (drop (i + length bs) d) 0 (i + j) (rw (length-append, e) (omega arith))
          ∙ ap (λ (k : ℕ). get_or (h ++ bs) (k + j) 0) (sym e)
          ∙ get_or-append-add h bs j 0;
    }
