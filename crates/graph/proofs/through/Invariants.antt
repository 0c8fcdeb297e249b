-- The masks passed have got k's mask where they have k, and the others are as they were.
use Rattle.std.proofs.Common.{◌≡◌, ℕ, ◌&&◌, ◌||◌, get_or}
use Rattle.mask.specs.Mask.{has}
use Rattle.mask.specs.MaskInner.{Upto}
use Rattle.graph.proofs.through.Given as goal

abbrev pub invariant-loop-m : goal.invariant-loop-m
invariant-loop-m l =
    Upto (λ x v. (s : ℕ) → has v s ≡ (has (get_or l.fn.q x 0) s || (has (get_or l.fn.q x 0) l.k && has l.row s))) l.fn.q l.m-index l.q
