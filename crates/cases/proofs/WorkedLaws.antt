-- Sums that are not marked P and compute too: the lowest amount, a run, a rule that does not wait, a test, a rule with two faults.
use mathlib.Core.Path.{◌≡◌, refl}
use mathlib.Core.List.{List, [], ◌∷◌, ◌++◌}
use Prim.Native.Nat.{ℕ}
use lib.IntN.{ℤ, pos, negsuc}
use lib.ListN.{replicate}
use Rattle.mask.specs.Search as Search
use Rattle.mask.specs.Mask as Mask
use Rattle.graph.specs.Graph as Graph
use Rattle.little.specs.Joined as Joined
use Rattle.rule.specs.Numbers as Numbers
use Rattle.table.specs.Table as Table
use Rattle.table.specs.Check as Check
use Rattle.table.specs.BodyStarts as BodyStarts
use Rattle.book_judge.specs.Read as Read
use Rattle.rule_sums.specs.Sums as Sums
use Rattle.rule_act.specs.Amounts as Amounts
use Rattle.rule_sums.specs.Sums.{scaled}
use Rattle.machine_spec.specs.State as Fit
use Rattle.machine_spec.specs.Step as Step
use Rattle.machine_spec.specs.Step.{moved, step_of}
use Rattle.machine_spec.specs.Run as Run
use Rattle.machine_spec.specs.Run.{ran, run_of}
use Rattle.cases.specs.Books.{night}
use Rattle.cases.specs.Case.{Holds, reads, steps, state, book_table}
use Rattle.cases.specs.Cases.{adds, evening}

-- the lowest amount in range: `negsuc k` is -(k + 1)
abbrev fewest : ℤ
fewest = negsuc 999999999999

-- a book of one cell and one rule, of t tests and one assignment
abbrev one : ℕ → ℕ → List ℕ → List ℕ
one size t rest =
    (1 ∷ 1 ∷ 1 ∷ 0 ∷ 8 ∷ 0 ∷ size ∷ 0 ∷ 0 ∷ 0 ∷ 0 ∷ 0 ∷ 0 ∷ 0 ∷ 0 ∷ 0 ∷ t ∷ 1 ∷ 1 ∷ 0 ∷ []) ++ rest ++ (97 ∷ [])

-- it sets cell 0 to 1 where it is 0
abbrev pub once : List ℕ
once = one 45 1 (replicate 12 0 ++ (0 ∷ 0 ∷ 0 ∷ 0 ∷ 1 ∷ []) ++ replicate 15 0)

-- its assignment has the unknown code 9, and a target that a book of one cell does not have
abbrev pub both_wrong : List ℕ
both_wrong = one 33 0 ((1 ∷ 9 ∷ []) ++ replicate 18 0)

pub record Worked : Type 0 where
  -- "A x p / q, cut toward zero"
  pub cut : scaled (pos 5) 3 2 ≡ pos 7
  -- "whole pence from -1,000,000,000,000"
  pub lowest : Holds (adds (replicate 8 0) fewest fewest 0)
  pub below : Holds (adds (replicate 8 255) fewest fewest 1)
  -- "*Run* takes the lowest-numbered eligible rule until none waits"
  pub run : run_of (book_table night) evening 9 ≡ ran 0 255 (state (pos 5 ∷ pos 6 ∷ pos 9 ∷ []) 0 0) 3
  -- "Stepping a rule that isn't waiting: 13, even if a waiting rule goes before it."
  pub asleep : step_of (book_table night) (state (pos 5 ∷ pos 6 ∷ []) 6 0) 0 ≡ moved 13 255 (state (pos 5 ∷ pos 6 ∷ []) 6 0)
  -- a test is judged on the amount before the step
  pub tested : Holds (steps once (state (pos 0 ∷ []) 1 0) (0 ∷ []) (state (pos 1 ∷ []) 0 0))
  pub untrue : Holds (steps once (state (pos 2 ∷ []) 1 0) (0 ∷ []) (state (pos 2 ∷ []) 0 0))
  -- "The first that applies is given": 6, and not 7
  pub first : Holds (reads both_wrong 6 0 0 0)

pub worked : Worked
unfolding Search.some Search.least Mask.has Mask.meet Mask.beyond Mask.mask_of Graph.leads Joined.joined Numbers.counts_bad
    Numbers.cells_bad Numbers.forms_bad Numbers.twice Numbers.letters_bad Numbers.same_name Numbers.name_taken Numbers.rule_number
    Numbers.rule_slot_bad Table.goes_before Check.sizes_bad Check.number_at Check.first_bad Check.first_slot Graph.cyclic Check.check_of
    BodyStarts.start_at Read.contents_bad Read.table_in Read.number_in Read.first_in Read.read_of Sums.compares Sums.holds
    Amounts.any_false Sums.scaled Sums.operated Sums.value_of Amounts.any_out Amounts.stored_by Fit.state_bad Fit.held_back Step.rested
    Step.marked Step.wakes Step.stored_and_woken Step.effect Step.answered Step.step_numbers Step.step_of Run.runs Run.run_of
worked =
    record {
      cut = refl;
      lowest = refl;
      below = refl;
      run = refl;
      asleep = refl;
      tested = refl;
      untrue = refl;
      first = (refl, refl, refl, refl);
    }
