-- The masks below r are those that f gives.
use Rattle.std.proofs.Common.{◌≡◌, ℕ, ◌<◌, length, get_or}
use Rattle.mask.proofs.row.Given as goal

abbrev pub invariant-loop-r : goal.invariant-loop-r
invariant-loop-r g l = (length l.m-items ≡ l.n) × ((k : ℕ) → k < l.r → goal.F-post g l.f k (get_or l.m-items k 0))
