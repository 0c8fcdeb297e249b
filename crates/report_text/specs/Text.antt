-- Words and numbers, letter by letter in ASCII, and a line of them.
use Rattle.std.specs.Prelude.{cond, List, [], ◌∷◌, ◌++◌, ℕ, zero, suc, ◌+◌, ◌/◌, ◌%◌, ltb}
use Prim.Native.Char.{code}
use Prim.Native.String.{String, [] as end, ◌∷◌ as ◌then◌}
use Rattle.mask.specs.Mask.{has}
use Rattle.little.specs.Joined.{joined}

-- the letters of a text, each by its ASCII code
abbrev pub letters : String → List ℕ
letters end = []
letters (c then s) = code c ∷ letters s

-- a number in decimal, of at most f digits
unfoldable pub digits_to : ℕ → ℕ → List ℕ
digits_to zero x = []
digits_to (suc f) x = cond (ltb x 10) ((48 + x) ∷ []) (digits_to f (x / 10) ++ ((48 + x % 10) ∷ []))

-- numbers, each after one space; ten digits hold every number below 2 ^ 32
unfoldable pub spaced : List ℕ → List ℕ
spaced [] = []
spaced (x ∷ xs) = letters " " ++ digits_to 10 x ++ spaced xs

-- a line of a word and numbers
unfoldable pub line : List ℕ → List ℕ → List ℕ
line word numbers = word ++ spaced numbers ++ letters "\n"

-- the members of a set upward
unfoldable pub members : ℕ → List ℕ
members m = joined 32 (λ i. cond (has m i) (i ∷ []) [])
