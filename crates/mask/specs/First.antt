-- "The first that applies is given."
use Rattle.std.specs.Prelude.{Bool, cond, List, [], ◌∷◌}

-- the answer of the first row whose test holds, or `none`
abbrev pub first_of : {A : Type 0} → A → List (Bool × A) → A
first_of none [] = none
first_of none (row ∷ rows) = cond row.0 row.1 (first_of none rows)
