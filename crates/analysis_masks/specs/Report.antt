-- What a report says of rules.
use Rattle.std.specs.Prelude.{◌≡◌, ◌↔◌, Bool, true, false, List, ℕ, ◌<◌, get_or, length, replicate}
use Rattle.mask.specs.Search.{count}
use Rattle.mask.specs.Mask.{has}
use Rattle.analysis_pairs.specs.declared.Masks.{Masks}
use Rattle.analysis_pairs.specs.RuleMasks.{rules_of}
use Rattle.analysis_marks.specs.Index.{index}
use Rattle.analysis_masks.specs.Cleared.{Faulty, Cleared}
use Rattle.analysis_marks.specs.Marks.{FirstOf, Marked, fails_at}

-- a report as the paper gives it: number 0 and place 255 say that it is done
pub record Report : Type 0 where
  pub number : ℕ
  pub place : ℕ
  pub cleared : Bool
  pub faulty : ℕ
  pub marks : List ℕ
  pub failing : ℕ
  pub first : ℕ
  pub second : ℕ
  pub culprit : ℕ
  pub other : ℕ

-- the report: number and place say that it is done
pub record Reported (m : Masks) (r : Report) : Type 0 where
  pub number : r.number ≡ 0
  pub place : r.place ≡ 255
  pub cleared : (r.cleared ≡ true) ↔ Cleared m
  pub faulty : (x : ℕ) → (has r.faulty x ≡ true) ↔ Faulty m x
  pub size : length r.marks ≡ 496
  pub marks : (i j : ℕ) → i < j → j < 32 → Marked (rules_of m) m.n i j (get_or r.marks (index i j) 0)
  pub failing : r.failing ≡ count 496 (fails_at r.marks)
  pub first : FirstOf (rules_of m) r.marks r.first r.second r.culprit r.other

-- "A refused report has only zeros beside number and place."
abbrev pub refused_report : ℕ → ℕ → Report
refused_report n p =
    record { number = n; place = p; cleared = false; faulty = 0; marks = replicate 496 0; failing = 0; first = 0; second = 0; culprit = 0; other = 0 }
