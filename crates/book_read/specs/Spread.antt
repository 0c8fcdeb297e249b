-- What reading a book gives, with the table as its bytes.
use Rattle.std.specs.Prelude.{◌≡◌, List, ℕ}
use Rattle.refusal.specs.Answer.{Answer}
use Rattle.table.specs.Memory.{table_bytes}
use Rattle.book_judge.specs.Read.{Reading, told}

-- the number, the place, and all bytes of the table
pub record Spread (r : Reading) (a : Answer) (bytes : List ℕ) : Type 0 where
  pub answered : a ≡ told r
  pub written : bytes ≡ table_bytes r.table
