-- A text that grows at its end: what it says and how long it is at most.
use mathlib.Core.Path.{◌≡◌, refl, sym, ap, ◌∙◌}
use mathlib.Core.List.{List, [], ◌∷◌, ◌++◌, append_assoc, append-nil}
use Prim.Native.Nat.{ℕ, ◌+◌, ◌≤◌, ◌<◌, ◌^◌}
use native.Mathlib.Omega.{arith}
use lib.ListN.{length}
use borrow.Author.Rules.{rules}
use Rattle.std.specs.Fmt.{decimal}
use Rattle.std.proofs.lemmas.Fmt.{decimal_from_appends, length-decimal-le}
use Rattle.report_text.specs.Text.{digits_to, spaced, line}
use Rattle.report_text.specs.ReportTextInner.{Added}

-- one after another
pub added_on : {bs : List ℕ} {m : ℕ} {d e : List ℕ} → Added bs m d e → {cs : List ℕ} {k : ℕ} {f : List ℕ} → Added cs k e f
    → Added (bs ++ cs) (m + k) d f
added_on {bs} {m} {d} h {cs} g =
    record { text = g.text ∙ ap (λ (x : List ℕ). x ++ cs) h.text ∙ append_assoc d bs cs; most = omega (arith, h.most, g.most) }

-- the same said otherwise
pub added_as : {bs : List ℕ} {m : ℕ} {d e : List ℕ} → Added bs m d e → {cs : List ℕ} → bs ≡ cs → {k : ℕ} → m ≤ k → Added cs k d e
added_as {bs} {m} {d} h e l = record { text = h.text ∙ ap (λ (x : List ℕ). d ++ x) e; most = omega (arith, h.most) }

pub added_none : (d : List ℕ) → Added [] 0 d d
added_none d = record { text = sym (append-nil d); most = omega arith }

-- the first of a text
pub added_first : {bs : List ℕ} {m : ℕ} {d e : List ℕ} → Added bs m d e → d ≡ [] → e ≡ bs
added_first {bs} h z = h.text ∙ ap (λ (x : List ℕ). x ++ bs) z

-- ---- words and numbers

-- ten digits hold every number of 32 bits
pub digits-decimal : (x : ℕ) → x < 2 ^ 32 → digits_to 10 x ≡ decimal x
unfolding digits_to
digits-decimal x h = decimal_from_appends digits_to (search rules) 10 x (omega arith) (length-decimal-le 10 x (omega arith) (omega arith) (omega arith))

spaced-append : (xs ys : List ℕ) → spaced (xs ++ ys) ≡ spaced xs ++ spaced ys
unfolding spaced
spaced-append [] ys = refl
spaced-append (x ∷ xs) ys =
    rw (spaced-append xs ys) (ap (λ (l : List ℕ). 32 ∷ l) (sym (append_assoc (digits_to 10 x) (spaced xs) (spaced ys))))

-- numbers and more of them
pub added_numbers : (xs ys : List ℕ) {m : ℕ} {d e : List ℕ} → Added (spaced xs) m d e → {k : ℕ} {f : List ℕ} → Added (spaced ys) k e f
    → Added (spaced (xs ++ ys)) (m + k) d f
added_numbers xs ys h g = added_as (added_on h g) (sym (spaced-append xs ys)) (omega arith)

-- a number after a space
pub added_number : (x : ℕ) → x < 2 ^ 32 → {d e f w : List ℕ} → Added (32 ∷ []) 1 d e → w ≡ decimal x → Added w (length w) e f
    → Added (spaced (x ∷ [])) 11 d f
unfolding spaced
added_number x l h w g =
    let few = length-decimal-le 10 x (omega arith) (omega arith) (omega arith) in
    added_as (added_on h g) (rw (w, digits-decimal x l) (ap (λ (l : List ℕ). 32 ∷ l) (sym (append-nil (decimal x))))) (rw w (omega (arith, few)))

-- a line: its word, its numbers and the newline
pub added_line : (word xs : List ℕ) {m : ℕ} {d e : List ℕ} → Added word (length word) d e → {k : ℕ} {f : List ℕ} → Added (spaced xs) k e f
    → {g : List ℕ} → Added (10 ∷ []) 1 f g → length word + k + 1 ≤ m → Added (line word xs) m d g
unfolding line
added_line word xs w h n l = added_as (added_on (added_on w h) n) refl l
