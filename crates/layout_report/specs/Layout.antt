-- A report as 512 bytes: "0 number, 1 place, 2 verdict, 3 zero, 4 to 7 faulty mask, 8 to 9 count of failing pairs, 10 and 11
-- first pair, 12 and 13 culprits, 14 and 15 zero, 16 to 511 the marks".
use Rattle.std.specs.Prelude.{cond, List, [], ◌∷◌, ◌++◌, ℕ}
use Rattle.little.specs.Bytes.{u16_bytes, u32_bytes}
use Rattle.analysis_masks.specs.Report.{Report}

-- bytes 0 to 15
unfoldable pub summary_bytes : Report → List ℕ
summary_bytes r =
    (r.number ∷ r.place ∷ cond r.cleared 1 0 ∷ 0 ∷ []) ++ u32_bytes r.faulty ++ u16_bytes r.failing
    ++ (r.first ∷ r.second ∷ r.culprit ∷ r.other ∷ []) ++ u16_bytes 0

unfoldable pub report_bytes : Report → List ℕ
report_bytes r = summary_bytes r ++ r.marks
