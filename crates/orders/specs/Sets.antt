-- The paper's own analysis, from the sets of watched, read and written cells.
use Rattle.std.specs.Prelude.{Bool, ◌&&◌, ◌||◌, not, ℕ, eqb}
use Rattle.orders.specs.Finite.{any}
use Rattle.orders.specs.Bodies.{Bodies}

module _ (k : ℕ) (B : Bodies k) where
  open B use {watches, reads, writes}

  -- "r may trigger s when s watches a cell that r writes; s may be r."
  unfoldable pub may_trigger : ℕ → ℕ → Bool
  may_trigger r s = any (λ x. writes r x && watches s x) k

  -- r writes a cell that s reads or writes
  unfoldable pub clashes : ℕ → ℕ → Bool
  clashes r s = any (λ x. writes r x && (reads s x || writes s x)) k

  -- "Two different rules commute when neither may trigger the other, and neither writes a cell that the
  -- other reads or writes. A rule commutes with itself."
  unfoldable pub commute : ℕ → ℕ → Bool
  commute r s = eqb r s || (not (may_trigger r s || may_trigger s r) && not (clashes r s || clashes s r))
