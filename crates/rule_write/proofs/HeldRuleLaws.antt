-- A rule as memory holds it: its numbers fit their types, its arrays have their slots.
use mathlib.Core.Path.{◌≡◌}
use Prim.Native.Nat.{ℕ, ◌≤◌, ◌<◌}
use lib.ListN.{get_or}
use Rattle.rule.specs.declared.Rule.{Rule}
use Rattle.rule.specs.Empty.{no_test, no_assign}
use Rattle.rule.specs.Uses.{test_at, assign_at}

-- "In memory, slots past a count are all zero.": past t tests, a assignments and m letters
pub record EmptyPast (r : Rule) (t a m : ℕ) : Type 0 where
  pub test : (j : ℕ) → t ≤ j → j < 8 → test_at r j ≡ no_test
  pub assign : (j : ℕ) → a ≤ j → j < 8 → assign_at r j ≡ no_assign
  pub letter : (j : ℕ) → m ≤ j → j < 16 → get_or r.name j 0 ≡ 0
