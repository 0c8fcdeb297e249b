-- The numbers of the editor's row: 3, 6 and 10.
use Rattle.std.specs.Prelude.{Bool, List, [], ◌∷◌, ℕ, ltb, get_or}
use Rattle.mask.specs.First.{first_of}
use Rattle.mask.specs.Search.{least}
use Rattle.mask.specs.Mask.{beyond}
use Rattle.graph.specs.Graph.{cyclic}
use Rattle.refusal.specs.Answer.{Answer}
use Rattle.table.specs.Check.{answer, done}
use Rattle.analysis_pairs.specs.declared.Masks.{Masks}

-- 6: "a precedes bit beyond the row": the first such record, or the number of records
unfoldable pub first_beyond : Masks → ℕ
first_beyond m = least m.n (λ i. beyond (get_or m.precedes i 0) m.n)

-- "there only 3 (over 32 records), 6 (a precedes bit beyond the row) and 10 occur"
abbrev pub row_answers : Masks → List (Bool × Answer)
row_answers m =
    (ltb 32 m.n, answer 3 255)
    ∷ (ltb (first_beyond m) m.n, answer 6 (first_beyond m))
    ∷ (cyclic m.n m.precedes, answer 10 255) ∷ []

unfoldable pub check_rows : Masks → Answer
check_rows m = first_of done (row_answers m)
