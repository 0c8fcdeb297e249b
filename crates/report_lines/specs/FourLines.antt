-- "What the report program prints": its lines.
use Rattle.std.specs.Prelude.{Bool, cond, List, [], ◌∷◌, ◌++◌, ℕ, eqb}
use Rattle.table.specs.Table.{Table}
use Rattle.analysis_masks.specs.Report.{Report}
use Rattle.analysis_masks.specs.Bound.{Bound}
use Rattle.report_text.specs.Text.{letters, line, members}

-- "A refused book prints one line: `refused` number place."
abbrev pub refused_line : ℕ → ℕ → List ℕ
refused_line number place = line (letters "refused") (number ∷ place ∷ [])

-- "`ends yes` and the step bound of all rules, or `ends no` and the faulty rule numbers upward"
unfoldable pub ends_line : ℕ → ℕ → List ℕ
ends_line faulty bound =
    cond (eqb faulty 0) (line (letters "ends yes") (bound ∷ [])) (line (letters "ends no") (members faulty))

-- "`pairs` and the failing count, and if not 0 the first pair and its two culprits"
unfoldable pub pairs_line : Report → List ℕ
pairs_line r =
    let pair = cond (eqb r.failing 0) [] (r.first ∷ r.second ∷ r.culprit ∷ r.other ∷ []) in
    line (letters "pairs") (r.failing ∷ pair)

-- "`cleared yes` or `cleared no`"
unfoldable pub cleared_line : Bool → List ℕ
cleared_line cleared = line (letters (cond cleared "cleared yes" "cleared no")) []

-- "prints four lines", the first of them "`book` n k"
unfoldable pub four_lines : Table → Report → Bound → List ℕ
four_lines t r b =
    line (letters "book") (t.n ∷ t.k ∷ []) ++ ends_line r.faulty b.bound ++ pairs_line r ++ cleared_line r.cleared
