-- A rule as memory holds it: its numbers fit their types, its arrays have their slots.
use Rattle.std.specs.Prelude.{◌≡◌, ℕ, ◌<◌, length}
use Rattle.std.specs.Int.{w64}
use Rattle.std.proofs.Common.{SFits}
use Rattle.rule.specs.declared.Assign.{Assign}
use Rattle.rule.specs.declared.Rule.{Rule}
use Rattle.rule.specs.Uses.{test_at, assign_at}

pub record HeldAssign (x : Assign) : Type 0 where
  pub k : SFits w64 x.k
  pub p : x.p < 4294967296
  pub q : x.q < 4294967296

pub record HeldRule (r : Rule) : Type 0 where
  pub watch : r.watch < 4294967296
  pub precedes : r.precedes < 4294967296
  pub tests : length r.tests ≡ 8
  pub assigns : length r.assigns ≡ 8
  pub name : length r.name ≡ 16
  pub test : (j : ℕ) → j < 8 → SFits w64 (test_at r j).constant
  pub assign : (j : ℕ) → j < 8 → HeldAssign (assign_at r j)
