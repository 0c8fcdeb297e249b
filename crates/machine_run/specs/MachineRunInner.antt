-- What only contracts of inner functions of `machine_run` cite.
use Rattle.std.specs.Prelude.{◌≡◌, List, ℕ, length, get_or}
use Rattle.mask.specs.Mask.{has}
use Rattle.table.specs.TableInner.{watches_of}
use Rattle.table.specs.Table.{goes_before}
use Rattle.table.specs.Check.{Sound}
use Rattle.table.specs.Memory.{table_from}

-- a table to which no number applies, the row of its watch masks, and the row of who goes before whom
pub record Lent (table row rows : List ℕ) : Type 0 where
  pub long : length table ≡ 9092
  pub sound : Sound (table_from table)
  pub watches : row ≡ watches_of (table_from table)
  pub before : (x y : ℕ) → has (get_or rows x 0) y ≡ goes_before (table_from table) x y
