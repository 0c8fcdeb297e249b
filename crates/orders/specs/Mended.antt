-- The night book mended: rule 1 writes cell 3, where no other rule does. Rule 0 watches cell 0 and sets cell 1 to cell 0 + 1. Rule 1
-- watches cell 0 and sets cell 3 to 9. Rule 2 watches cell 1, sets cell 2 to 7, and goes before 0 and 1. Here is what the rules do, and the
-- two sets of the pair (0, 1).
use Rattle.std.specs.Prelude.{Bool, false, ◌||◌, ℕ, zero, suc, eqb, ltb, ℤ, pos}
use Rattle.std.proofs.Math.IntN.{suc_ℤ}
use Rattle.orders.specs.Cells.{Cells}

-- the cell that a rule watches; rules from 3 up do not count
abbrev pub watched : ℕ → ℕ
watched zero = 0
watched (suc zero) = 0
watched (suc (suc r)) = 1

-- 2 goes before 0 and 1
abbrev pub before : ℕ → ℕ → Bool
before zero s = false
before (suc zero) s = false
before (suc (suc r)) s = ltb s 2

-- 0 may trigger 2, and no other rule triggers one
abbrev pub weight : ℕ → ℕ
weight zero = 2
weight (suc r) = 1

-- 0 reads cell 0
abbrev pub reading : ℕ → ℕ → Bool
reading zero x = eqb x 0
reading (suc r) x = false

-- the cell that a rule writes
abbrev pub target : ℕ → ℕ
target zero = 1
target (suc zero) = 3
target (suc (suc r)) = 2

-- the right side of a rule's assignment
abbrev pub right : ℕ → Cells → ℤ
right zero c = suc_ℤ (c 0)
right (suc zero) c = pos 9
right (suc (suc r)) c = pos 7

-- R1 of the pair (0, 1)
abbrev pub zero_and_two : ℕ → Bool
zero_and_two r = eqb r 0 || eqb r 2

abbrev pub one_only : ℕ → Bool
one_only r = eqb r 1
