-- Of the numbers below x, a holds those that pass the test, and no other number.
use Rattle.std.proofs.Common.{◌≡◌, ℕ, ◌<◌, ◌≤◌, false}
use Rattle.mask.specs.Mask.{has}
use Rattle.mask.proofs.such.Given as goal

abbrev pub invariant-loop-x : goal.invariant-loop-x
invariant-loop-x g l = ((k : ℕ) → k < l.x → goal.F-post g l.test k (has l.a k)) × ((k : ℕ) → l.x ≤ k → has l.a k ≡ false)
