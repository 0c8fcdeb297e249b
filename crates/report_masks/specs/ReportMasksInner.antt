-- What only contracts of inner functions of `report_masks` cite.
use Rattle.std.specs.Prelude.{◌≡◌, List, ℕ, ◌+◌, ◌<◌}
use Rattle.little.specs.Little.{byte_at}
use Rattle.rule_read.specs.Parts.{rule_of}
use Rattle.rule_read.specs.RuleReadInner.{Room}
use Rattle.table.specs.Table.{rule_at}
use Rattle.book_judge.specs.Read.{table_in, read_of}
use Rattle.book_judge.specs.BookJudgeInner.{n_of}

-- body i is one of a book that was read
abbrev pub HasBody : List ℕ → ℕ → Type 0
HasBody s i = ((read_of s).number ≡ 0) × (i < n_of s)

-- it starts at `at`, has t tests and a assignments, and is rule i
pub record BodyAt (s : List ℕ) (i at t a : ℕ) : Type 0 where
  pub room : Room s at t a 0
  pub tests : t ≡ byte_at s (at + 8)
  pub assigns : a ≡ byte_at s (at + 9)
  pub rule : rule_of s at t a (byte_at s (at + 10)) ≡ rule_at (table_in s) i
