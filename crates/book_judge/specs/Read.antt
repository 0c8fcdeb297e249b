-- What reading a book gives, in the paper's order, for every list of bytes.
use Rattle.std.specs.Prelude.{Bool, not, cond, ◌||◌, List, [], ◌∷◌, ℕ, ◌+◌, ◌*◌, ltb, eqb, length}
use Rattle.mask.specs.Search.{some, least}
use Rattle.mask.specs.First.{first_of}
use Rattle.graph.specs.Graph.{cyclic}
use Rattle.little.specs.Little.{byte_at, u16_at}
use Rattle.rule.specs.declared.Rule.{Rule}
use Rattle.rule.specs.Fill.{filled}
use Rattle.rule.specs.Empty.{no_rule}
use Rattle.rule.specs.Numbers.{not_zero}
use Rattle.rule_read.specs.Parts.{rule_of}
use Rattle.table.specs.Table.{Table, no_table, rule_at, precedes_of}
use Rattle.refusal.specs.Answer.{Answer}
use Rattle.table.specs.Check.{answer, sizes_bad, number_at}
use Rattle.table.specs.BodyStarts.{body_size, start_at}

-- what reading gives: a number, its place, and the table
pub record Reading : Type 0 where
  pub number : ℕ
  pub place : ℕ
  pub table : Table

-- "Contents: n entries of 4 bytes, start (16 bits) and length (16 bits)."
abbrev pub start_of : List ℕ → ℕ → ℕ
start_of s i = u16_at s (4 + 4 * i)

abbrev pub length_of : List ℕ → ℕ → ℕ
length_of s i = u16_at s (6 + 4 * i)

-- 1: "book under 4 or over 9,220 bytes"
abbrev pub length_bad : List ℕ → Bool
length_bad s = ltb (length s) 4 || ltb 9220 (length s)

-- 2: "edition not 1, or byte 3 not 0"
abbrev pub head_bad : List ℕ → Bool
head_bad s = not (eqb (byte_at s 0) 1) || not (eqb (byte_at s 3) 0)

-- 4: "contents don't fit the book as above": they lie in it, each start is the sum, "The last body ends at the book's end"
unfoldable pub contents_bad : List ℕ → ℕ → Bool
contents_bad s n =
    let start = start_at n (length_of s) in
    ltb (length s) (4 + 4 * n) || (some n (λ i. not (eqb (start_of s i) (start i))) || not (eqb (start n) (length s)))

-- the rule whose body is at `at`, by its own counts
abbrev pub rule_in : List ℕ → ℕ → Rule
rule_in s at = rule_of s at (byte_at s (at + 8)) (byte_at s (at + 9)) (byte_at s (at + 10))

-- the table that the bytes hold: "Byte 1: n, 0 to 32. Byte 2: k."
unfoldable pub table_in : List ℕ → Table
table_in s = record { n = byte_at s 1; k = byte_at s 2; rules = filled 32 no_rule (λ i. rule_in s (start_of s i)) (byte_at s 1) }

-- the number of rule i: 5, "body length wrong", then 5 to 9 as for a table
unfoldable pub number_in : List ℕ → ℕ → ℕ
number_in s i = cond (not (eqb (length_of s i) (body_size (rule_at (table_in s) i)))) 5 (number_at (table_in s) i)

-- "then rule by rule 5 to 9": the first rule with a number, or n
unfoldable pub first_in : List ℕ → ℕ
first_in s = least (byte_at s 1) (λ i. not_zero (number_in s i))

-- "A refused read gives an empty table of zeros."
abbrev pub refusal : ℕ → ℕ → Reading
refusal number place = record { number = number; place = place; table = no_table }

-- "Order: 1 to 4 for the whole book, then rule by rule 5 to 9, then 10."
abbrev pub read_answers : List ℕ → List (Bool × Reading)
read_answers s =
    (length_bad s, refusal 1 255)
    ∷ (head_bad s, refusal 2 255)
    ∷ (sizes_bad (byte_at s 1) (byte_at s 2), refusal 3 255)
    ∷ (contents_bad s (byte_at s 1), refusal 4 255)
    ∷ (ltb (first_in s) (byte_at s 1), refusal (number_in s (first_in s)) (first_in s))
    ∷ (cyclic (byte_at s 1) (precedes_of (table_in s)), refusal 10 255) ∷ []

unfoldable pub read_of : List ℕ → Reading
read_of s = first_of (record { number = 0; place = 255; table = table_in s }) (read_answers s)

-- the number and the place of a reading
abbrev pub told : Reading → Answer
told r = answer r.number r.place
