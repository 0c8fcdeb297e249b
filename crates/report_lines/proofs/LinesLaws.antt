-- The set of all rules, and what the promise of `lines` gives a caller.
use mathlib.Core.Path.{◌≡◌, refl, sym, ◌∙◌}
use mathlib.Core.Logic.{⊎_elim}
use mathlib.Core.List.{List}
use Prim.Native.Nat.{ℕ, ◌-◌, ◌^◌, ◌≤◌, ◌<◌}
use native.Mathlib.Omega.{arith}
use lib.Dec.{ltb}
use lib.ListN.{length}
use lib.Pow.{pow_pos, pow_mono}
use borrow.Author.Tests.{lt-ltb, le-ltb}
use Rattle.little.specs.Put.{put}
use Rattle.std.proofs.Common.{Result, Ok, Err, ◌++◌, drop, zero-add}
use Rattle.std.specs.Result.{result_unwrap_or}
use Rattle.refusal.specs.declared.Refusal.{Refusal}
use Rattle.analysis_masks.specs.Found.{bound_of}
use Rattle.mask.specs.Mask.{has}
use Rattle.mask.proofs.BitsLaws.{ext, has-ones}
use Rattle.mask.proofs.SearchLaws.{lt-or_ge}
use Rattle.report_lines.specs.Lines.{Printed, LinesSay}

-- the mask of the numbers below n
pub all-rules : (n set : ℕ) → n ≤ 32 → set < 2 ^ 32 → ((k : ℕ) → has set k ≡ ltb k n) → set ≡ 2 ^ n - 1
all-rules n set few h e =
    let one = pow_pos n in
    let top = pow_mono few in
    ext 32 set (2 ^ n - 1) h (omega arith) (λ i l. e i ∙ sym (has-ones n i))

-- "A refused step bound is 0."
pub bound-or-none : (r : Result ℕ Refusal) → result_unwrap_or r 0 ≡ (bound_of r).bound
bound-or-none (Ok b) = refl
bound-or-none (Err e) = refl

-- bytes at the start of a buffer, before the rest of it
pub put_first : (d bs : List ℕ) {n : ℕ} {cs : List ℕ} → n ≡ length bs → cs ≡ bs → cs ++ drop n d ≡ put d 0 bs
unfolding put
put_first d bs e f = rw (e, f, zero-add) refl

-- the length that is given lies in the buffer, and is at most 512
pub length-within : {s d : List ℕ} {x : Printed × List ℕ} → LinesSay s d x → (x.0.length ≤ length d) × (x.0.length ≤ 512)
length-within {s} {d} {x} h =
    rw h.is
    (⊎_elim
    (λ l. rw (lt-ltb (length d) (length h.text) l) (omega arith, omega arith))
    (λ l. rw (le-ltb (length d) (length h.text) l) (l, h.most))
    (lt-or_ge (length d) (length h.text)))

-- a buffer of 512 bytes always gets the text
pub enough : {s d : List ℕ} {x : Printed × List ℕ} → (h : LinesSay s d x) → 512 ≤ length d
    → (x.0.length ≡ length h.text) × (x.1 ≡ put d 0 h.text)
enough {s} {d} h l =
    let fits = le-ltb (length d) (length h.text) (omega (arith, h.most)) in
    rw (h.is, fits) (refl, refl)
