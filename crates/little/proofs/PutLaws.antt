-- Writing into a buffer: what stands in it afterwards, for lists of any kind.
use mathlib.Core.Path.{◌≡◌, refl, sym, ap, ◌∙◌}
use mathlib.Core.List.{List, [], ◌∷◌, ◌++◌, append_assoc, append-nil}
use Prim.Native.Nat.{ℕ, ◌+◌, ◌≤◌, ◌<◌}
use native.Mathlib.Nat.{add-zero, zero-add, add_assoc}
use native.Mathlib.Numerals.{add-one}
use native.Mathlib.Omega.{arith}
use lib.ListN.{length, get_or, take, drop, set, length-append, length-drop, length-set, take-append-drop, drop_of_length-le}
use lib.Seq.{length-take-le, take-suc, take_all, set_split, take_at, drop-drop, drop-append-add, append_snoc, take-append_seam, drop-append_seam}
use Rattle.little.specs.Put.{put}

module _ {A : Type 0} where
  pub put-nil : (d : List A) (at : ℕ) → put d at [] ≡ d
  unfolding put
  put-nil d at = rw (add-zero, append-nil) (take-append-drop at d)

  -- a write over the whole leaves nothing of what was there
  pub put_whole : (d bs : List A) → length bs ≡ length d → put d 0 bs ≡ bs
  unfolding put
  put_whole d bs e = rw (drop_of_length-le d {i = 0 + length bs} (omega arith)) (append-nil bs)

  module _ (d : List A) (at : ℕ) (bs : List A) (fits : at + length bs ≤ length d) where
    length-head : length (take at d ++ bs) ≡ at + length bs
    length-head = rw (length-append, length-take-le at d (omega arith))

    pub length-put : length (put d at bs) ≡ length d
    unfolding put
    length-put = rw (length-append, length-head, length-drop) (omega arith)

    -- two writes, the second where the first ends, are one
    pub put_on : (p : ℕ) → p ≡ at + length bs → (cs : List A) → put (put d at bs) p cs ≡ put d at (bs ++ cs)
    unfolding put
    put_on p e cs =
        let h = take at d ++ bs in
        let w = h ++ drop (at + length bs) d in
        let f : p + length cs ≡ length h + length cs = rw (e, length-head) in
        let t : take p w ≡ h = take_at h (drop (at + length bs) d) p (length-head ∙ sym e) in
        let r : drop (p + length cs) w ≡ drop (at + length (bs ++ cs)) d =
        ap (λ (k : ℕ). drop k w) f ∙ (drop-append-add h (drop (at + length bs) d) (length cs)
        ∙ (drop-drop (length cs) (at + length bs) d
        ∙ ap (λ (k : ℕ). drop k d)
        (add_assoc at (length bs) (length cs) ∙ ap (λ (k : ℕ). at + k) (sym (length-append bs cs))))) in
        ap (λ (x : List A). x ++ cs ++ drop (p + length cs) w) t
        ∙ (ap (λ (x : List A). h ++ cs ++ x) r
        ∙ ap (λ (x : List A). x ++ drop (at + length (bs ++ cs)) d) (append_assoc (take at d) bs cs))

  -- two writes, the second at the start and ending where the first begins, are one
  pub put_before : (d bs : List A) (p : ℕ) → p ≡ length bs → (cs : List A) → p + length cs ≤ length d → put (put d p cs) 0 bs ≡ put d 0 (bs ++ cs)
  unfolding put
  put_before d bs p e cs fits =
      let rest = drop (p + length cs) d in
      let w = (take p d ++ cs) ++ rest in
      let f : drop (0 + length bs) w ≡ cs ++ rest =
      ap (drop (0 + length bs)) (append_assoc (take p d) cs rest)
      ∙ (ap (λ (k : ℕ). drop k (take p d ++ (cs ++ rest))) (omega (arith, length-take-le p d (omega arith)))
      ∙ drop-append_seam (take p d) (cs ++ rest)) in
      ap (λ (x : List A). bs ++ x) f
      ∙ (sym (append_assoc bs cs rest)
      ∙ ap (λ (k : ℕ). (bs ++ cs) ++ drop k d) (rw (length-append, e) (omega arith)))

  -- the same of what two calls leave
  pub put_next : (d : List A) (at : ℕ) (bs : List A) {l m : List A} → l ≡ put d at bs → at + length bs ≤ length d
      → (p : ℕ) → p ≡ at + length bs → (cs : List A) → m ≡ put l p cs → m ≡ put d at (bs ++ cs)
  put_next d at bs e fits p q cs f = f ∙ (ap (λ (x : List A). put x p cs) e ∙ put_on d at bs fits p q cs)

  -- a store is a write of one
  pub put-set : (d : List A) (at : ℕ) (b : A) → at < length d → set d at b ≡ put d at (b ∷ [])
  unfolding put
  put-set d at b h = set_split d at b h ∙ rw (add-one, append_snoc)

  -- a store where a write ends
  pub put-store : (d : List A) (at : ℕ) (bs : List A) (p : ℕ) → p ≡ at + length bs → p < length d → (b : A)
      → set (put d at bs) p b ≡ put d at (bs ++ (b ∷ []))
  put-store d at bs p e h b =
      let fits : at + length bs ≤ length d = omega arith in
      let inside : p < length (put d at bs) = rw (length-put d at bs fits) h in
      put-set (put d at bs) p b inside ∙ put_on d at bs fits p e (b ∷ [])

  -- written from the start: what the buffer begins with, and that the rest is as it was
  pub put_front : (d bs : List A) → take (length bs) (put d 0 bs) ≡ bs
  unfolding put
  put_front d bs = take-append_seam bs (drop (0 + length bs) d)

  pub put_rest : (d bs : List A) → drop (length bs) (put d 0 bs) ≡ drop (length bs) d
  unfolding put
  put_rest d bs = drop-append_seam bs (drop (0 + length bs) d) ∙ rw zero-add

  -- ---- a loop that writes bs from `at` on, one after another: the first j of them are written
  pub record Written (d : List A) (at : ℕ) (bs : List A) (j : ℕ) (out : List A) : Type 0 where
    pub is : out ≡ put d at (take j bs)
    pub long : length out ≡ length d

  pub written_none : {d : List A} {at : ℕ} {bs : List A} → Written d at bs 0 d
  written_none {d} {at} = record { is = sym (put-nil d at); long = refl }

  pub written-more : {d : List A} {at : ℕ} {bs : List A} {j : ℕ} {out : List A} → Written d at bs j out → at + length bs ≤ length d
      → j < length bs → (none b : A) → b ≡ get_or bs j none → Written d at bs (j + 1) (set out (at + j) b)
  written-more {d} {at} {bs} {j} {out} w fits l none b e =
      let n = length-take-le j bs (omega arith) in
      record {
        is =
            ap (λ (x : List A). set x (at + j) b) w.is
            ∙ put-store d at (take j bs) (at + j) (omega arith) (omega arith) b
            ∙ rw (e, add-one, take-suc bs j none l) refl;
        long = length-set out (at + j) b ∙ w.long;
      }

  pub written_all : {d : List A} {at : ℕ} {bs : List A} {j : ℕ} {out : List A} → Written d at bs j out → length bs ≤ j
      → out ≡ put d at bs
  written_all {d} {at} {bs} {j} w l = w.is ∙ ap (put d at) (take_all j bs l)
