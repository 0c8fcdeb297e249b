-- The digits of a number say that number: ten of them are enough below 2 ^ 32.
use mathlib.Core.Path.{◌≡◌, refl, ap, ◌∙◌}
use mathlib.Core.Bool.{Bool, true, false, cond}
use mathlib.Core.List.{List, [], ◌∷◌, ◌++◌}
use Prim.Native.Nat.{ℕ, zero, suc, ◌+◌, ◌-◌, ◌*◌, ◌/◌, ◌%◌, ◌^◌, ◌<◌}
use native.Mathlib.Nat.{div-lt_iff_lt-mul, mod-add-div, pow-suc}
use native.Mathlib.Omega.{arith}
use lib.Dec.{ltb}
use Rattle.report_text.specs.Text.{digits_to}

-- what decimal digits say after x
abbrev pub value : ℕ → List ℕ → ℕ
value x [] = x
value x (c ∷ cs) = value (10 * x + (c - 48)) cs

value-last : (x : ℕ) (cs : List ℕ) (c : ℕ) → value x (cs ++ (c ∷ [])) ≡ 10 * value x cs + (c - 48)
value-last x [] c = refl
value-last x (d ∷ cs) c = value-last (10 * x + (d - 48)) cs c

pub value-digits : (f x : ℕ) → x < 10 ^ f → value 0 (digits_to f x) ≡ x
unfolding digits_to
value-digits zero x h = omega arith
value-digits (suc f) x h = pick (value-digits f (x / 10) less) (ltb x 10)
  where
    less : x / 10 < 10 ^ f
    less =
        let some : 0 < 10 = omega arith in
        let whole : x < 10 ^ f * 10 = rw pow-suc at h in
        (div-lt_iff_lt-mul some).1 whole

    pick : value 0 (digits_to f (x / 10)) ≡ x / 10 → (b : Bool)
        → value 0 (cond b ((48 + x) ∷ []) (digits_to f (x / 10) ++ ((48 + x % 10) ∷ []))) ≡ x
    pick e true = omega arith
    pick e false =
        let g = value-last 0 (digits_to f (x / 10)) (48 + x % 10) in
        let m = mod-add-div x 10 in
        g ∙ (ap (λ (y : ℕ). 10 * y + (48 + x % 10 - 48)) e ∙ omega arith)

-- a number of 32 bits is said whole
pub value_32 : (x : ℕ) → x < 2 ^ 32 → value 0 (digits_to 10 x) ≡ x
value_32 x h = value-digits 10 x (omega arith)
