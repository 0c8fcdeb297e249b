-- Steps computed on the definitions: of the night book, and of two rules that write one cell alike. Each is `refl`.
use mathlib.Core.Path.{◌≡◌, refl}
use mathlib.Core.List.{List, [], ◌∷◌, ◌++◌}
use Prim.Native.Nat.{ℕ, ◌-◌}
use lib.Dec.{lit<}
use lib.ListN.{replicate}
use lib.IntN.{ℤ, pos}
use Rattle.mask.specs.Search as Search
use Rattle.mask.specs.Mask as Mask
use Rattle.graph.specs.Graph as Graph
use Rattle.rule.specs.declared.Assign.{Assign}
use Rattle.rule.specs.declared.Rule.{Rule}
use Rattle.rule.specs.Empty.{no_test, no_assign, no_rule}
use Rattle.rule.specs.Numbers as Numbers
use Rattle.table.specs.Table.{Table}
use Rattle.table.specs.Table as Table
use Rattle.table.specs.Check as Check
use Rattle.rule_sums.specs.Sums as Sums
use Rattle.rule_act.specs.Amounts as Amounts
use Rattle.machine_spec.specs.declared.State.{State}
use Rattle.machine_spec.specs.State as State
use Rattle.machine_spec.specs.State.{Fits}
use Rattle.machine_spec.specs.Step as Step
use Rattle.machine_spec.specs.Step.{moved, step_of}

-- an assignment to a cell: cell a + k; and k alone
abbrev pub plus : ℕ → ℕ → ℤ → Assign
plus target a k = record { target = target; operation = 1; a = a; b = 0; k = k; p = 0; q = 0 }

abbrev pub constant : ℕ → ℕ → Assign
constant target k = record { target = target; operation = 0; a = 0; b = 0; k = pos k; p = 0; q = 0 }

-- a rule with no tests and a name of one letter
abbrev pub untested : ℕ → ℕ → ℕ → List Assign → ℕ → Rule
untested watch precedes a xs letter =
    record {
      watch = watch;
      precedes = precedes;
      t = 0;
      a = a;
      m = 1;
      zero = 0;
      tests = replicate 8 no_test;
      assigns = xs ++ replicate (8 - a) no_assign;
      name = letter ∷ replicate 15 0;
    }

-- "night book. Rule 0 watches cell 0, sets cell 1 to cell 0 + 1. Rule 1 watches cell 0, sets cell 2 to 9.
-- Rule 2 watches cell 1, sets cell 2 to 7, goes before 0 and 1."
abbrev pub night_table : Table
night_table =
    record {
      n = 3;
      k = 3;
      rules =
          untested 1 0 1 (plus 1 0 (pos 1) ∷ []) 97 ∷ untested 1 0 1 (constant 2 9 ∷ []) 98
          ∷ untested 2 3 1 (constant 2 7 ∷ []) 99
          ∷ replicate 29 no_rule;
    }

-- the first three cells, who waits, the fault marks
abbrev pub night_state : ℤ → ℤ → ℤ → ℕ → ℕ → State
night_state a b c waiting faults = record { cells = a ∷ b ∷ c ∷ replicate 29 (pos 0); waiting = waiting; faults = faults }

-- the night book after 5 is posted to cell 0: rules 0 and 1 wait
abbrev pub night_evening : State
night_evening = night_state (pos 5) (pos 0) (pos 0) 3 0

-- two rules watch cell 0 and each sets cell 1 to 7
abbrev pub twins : Table
twins = record { n = 2; k = 2; rules = untested 1 0 1 (constant 1 7 ∷ []) 97 ∷ untested 1 0 1 (constant 1 7 ∷ []) 98 ∷ replicate 30 no_rule }

-- after 5 is posted to cell 0; after one of the two; after both
abbrev pub twins_posted : State
twins_posted = night_state (pos 5) (pos 0) (pos 0) 3 0

abbrev pub other : ℕ → State
other waiting = night_state (pos 5) (pos 7) (pos 0) waiting 0

pub record Facts : Type 0 where
  pub evening-fits : Fits night_table night_evening
  -- rules 0, 2, 1
  pub night_0 : step_of night_table night_evening 0 ≡ moved 0 255 (night_state (pos 5) (pos 6) (pos 0) 6 0)
  pub night_02 : step_of night_table (night_state (pos 5) (pos 6) (pos 0) 6 0) 2 ≡ moved 0 255 (night_state (pos 5) (pos 6) (pos 7) 2 0)
  pub night_021 : step_of night_table (night_state (pos 5) (pos 6) (pos 7) 2 0) 1 ≡ moved 0 255 (night_state (pos 5) (pos 6) (pos 9) 0 0)
  -- rules 1, 0, 2
  pub night_1 : step_of night_table night_evening 1 ≡ moved 0 255 (night_state (pos 5) (pos 0) (pos 9) 1 0)
  pub night_10 : step_of night_table (night_state (pos 5) (pos 0) (pos 9) 1 0) 0 ≡ moved 0 255 (night_state (pos 5) (pos 6) (pos 9) 4 0)
  pub night_102 : step_of night_table (night_state (pos 5) (pos 6) (pos 9) 4 0) 2 ≡ moved 0 255 (night_state (pos 5) (pos 6) (pos 7) 0 0)
  -- the two rules in either order
  pub twin_0 : step_of twins twins_posted 0 ≡ moved 0 255 (other 2)
  pub twin_01 : step_of twins (other 2) 1 ≡ moved 0 255 (other 0)
  pub twin_1 : step_of twins twins_posted 1 ≡ moved 0 255 (other 1)
  pub twin_10 : step_of twins (other 1) 0 ≡ moved 0 255 (other 0)

pub facts : Facts
unfolding step_of Step.answered Step.step_numbers Step.effect Step.rested Step.marked Step.stored_and_woken Step.wakes State.state_bad
    State.held_back Check.check_of Check.sizes_bad Check.number_at Check.first_bad Check.first_slot Graph.cyclic Table.goes_before Graph.leads
    Search.some Search.least Mask.has Mask.beyond Mask.mask_of Numbers.counts_bad Numbers.cells_bad Numbers.forms_bad Numbers.twice
    Numbers.letters_bad Numbers.name_taken Numbers.same_name Numbers.rule_number Numbers.rule_slot_bad Sums.compares Sums.holds
    Amounts.any_false Amounts.any_out Sums.value_of Sums.operated Amounts.stored_by
facts =
    record {
      evening-fits = record { long = refl; waiting = lit< tt; faults = lit< tt; good = refl };
      night_0 = refl;
      night_02 = refl;
      night_021 = refl;
      night_1 = refl;
      night_10 = refl;
      night_102 = refl;
      twin_0 = refl;
      twin_01 = refl;
      twin_1 = refl;
      twin_10 = refl;
    }
