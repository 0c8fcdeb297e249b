-- What only contracts of inner functions of `book_judge` cite.
use Rattle.std.specs.Prelude.{◌≡◌, List, Bool, false, not, ◌||◌, ℕ, ◌+◌, ◌*◌, ◌<◌, ◌≤◌, eqb, length, drop}
use Rattle.mask.specs.First.{first_of}
use Rattle.little.specs.Little.{byte_at}
use Rattle.rule.specs.declared.Rule.{Rule}
use Rattle.rule.specs.Numbers.{counts_bad}
use Rattle.rule_read.specs.RuleReadInner.{Room}
use Rattle.table.specs.Table.{Table}
use Rattle.table.specs.BodyStarts.{body_size}
use Rattle.book_judge.specs.Read.{Reading, start_of, length_of, rule_in, table_in, read_answers}

-- the numbers of rules and of cells
abbrev pub n_of : List ℕ → ℕ
n_of s = byte_at s 1

abbrev pub k_of : List ℕ → ℕ
k_of s = byte_at s 2

-- the contents and each body lie in the bytes
pub record Inside (s : List ℕ) (n : ℕ) : Type 0 where
  pub few : n ≤ 32
  pub contents : 4 + 4 * n ≤ length s
  pub bodies : (i : ℕ) → i < n → start_of s i + length_of s i ≤ length s

-- the rule of body i
abbrev pub body_in : List ℕ → ℕ → Rule
body_in s i = rule_in s (start_of s i)

-- 5 of body i: its counts, or its length
unfoldable pub body_bad : List ℕ → ℕ → Bool
body_bad s i = counts_bad (body_in s i) || not (eqb (length_of s i) (body_size (body_in s i)))

-- the bytes have room for the body at `at`, by its own counts
abbrev pub Stretch : List ℕ → ℕ → Type 0
Stretch s at = Room s at (byte_at s (at + 8)) (byte_at s (at + 9)) (byte_at s (at + 10))

-- every body lies in the bytes, and 5 refuses none
pub record GoodBodies (s : List ℕ) : Type 0 where
  pub inside : Inside s (n_of s)
  pub good : (i : ℕ) → i < n_of s → body_bad s i ≡ false

-- what reading gives that is done
abbrev pub taken : Table → Reading
taken t = record { number = 0; place = 255; table = t }

-- what is left of reading after 1 to 4
unfoldable pub bodies_of : List ℕ → Reading
bodies_of s = first_of (taken (table_in s)) (drop 4 (read_answers s))
