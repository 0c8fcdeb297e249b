-- The members below i have been added; each takes at most 11 bytes.
use mathlib.Core.Bool.{cond}
use mathlib.Core.List.{List, [], ◌∷◌}
use Prim.Native.Nat.{ℕ, ◌*◌, ◌≤◌}
use Rattle.mask.specs.Mask.{has}
use Rattle.little.specs.Joined.{joined}
use Rattle.report_text.specs.Text.{spaced}
use Rattle.report_text.specs.ReportTextInner.{Added}
use Rattle.report_text.proofs.members.Given as goal

-- the members below i
abbrev pub below : ℕ → ℕ → List ℕ
below m i = joined i (λ x. cond (has m x) (x ∷ []) [])

abbrev pub invariant-loop-i : goal.invariant-loop-i
invariant-loop-i l = (l.i ≤ 32) × Added (spaced (below l.m l.i)) (11 * l.i) l.initial.text.items l.text.items
