-- One test and one right side, over the cells' amounts.
use Rattle.std.specs.Prelude.{Bool, false, not, cond, ◌||◌, List, [], ◌∷◌, ℕ, get_or, ℤ, pos, ◌+ℤ◌, ◌-ℤ◌, ◌*ℤ◌}
use Rattle.std.specs.Int.Signed.{lt_z, le_z, quot_z}
use Rattle.rule.specs.declared.Test.{Test}
use Rattle.rule.specs.declared.Assign.{Assign}
use Rattle.rule.specs.Uses.{uses_right}

-- the amount of cell c
abbrev pub at : List ℤ → ℕ → ℤ
at cells c = get_or cells c (pos 0)

-- "whose value now differs from before"
abbrev pub differs : ℤ → ℤ → Bool
differs v w = lt_z v w || lt_z w v

-- "comparison (0 equal, 1 unequal, 2 less, 3 at most, 4 more, 5 at least)"; an unknown one never holds
unfoldable pub compares : ℕ → ℤ → ℤ → Bool
compares code v w = get_or (not (differs v w) ∷ differs v w ∷ lt_z v w ∷ le_z v w ∷ lt_z w v ∷ le_z w v ∷ []) code false

-- "right kind (0 constant, 1 cell), right cell, constant"
unfoldable pub holds : Test → List ℤ → Bool
holds x cells = compares x.comparison (at cells x.left) (cond (uses_right x) (at cells x.right) x.constant)

-- "A x p / q, cut toward zero"
unfoldable pub scaled : ℤ → ℕ → ℕ → ℤ
scaled a p q = quot_z (a *ℤ pos p) (pos q)

-- "0 gives K; 1 gives A + K; 2 gives A + B; 3 gives A - B; 4 gives A x p / q"; an unknown one gives 0
unfoldable pub operated : ℕ → ℤ → ℤ → ℤ → ℕ → ℕ → ℤ
operated code a b k p q = get_or (k ∷ (a +ℤ k) ∷ (a +ℤ b) ∷ (a -ℤ b) ∷ scaled a p q ∷ []) code (pos 0)

-- a right side
unfoldable pub value_of : Assign → List ℤ → ℤ
value_of x cells = operated x.operation (at cells x.a) (at cells x.b) x.k x.p x.q
