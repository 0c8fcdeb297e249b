-- The sets that f gives below j, united.
use Rattle.std.proofs.Common.{◌≡◌, ℕ, ◌<◌, Bool}
use Rattle.mask.specs.Search.{some}
use Rattle.mask.specs.Mask.{has}
use Rattle.rule_uses.proofs.united.Given as goal

abbrev pub invariant-loop-j : goal.invariant-loop-j
invariant-loop-j g l =
    (T : ℕ → ℕ → Bool) → ((j m : ℕ) → j < l.n → goal.F-post g l.f j m → (x : ℕ) → has m x ≡ T j x)
    → (x : ℕ) → has l.all x ≡ some l.j (λ j. T j x)
