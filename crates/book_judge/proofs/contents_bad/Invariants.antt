-- `end` is where body i has to start, and every body passed starts where it has to.
use Rattle.std.proofs.Common.{◌≡◌, ◌+◌, ◌*◌, ◌≤◌, not, eqb}
use Rattle.mask.proofs.LoopsLaws.{Passed}
use Rattle.table.specs.BodyStarts.{start_at}
use Rattle.book_judge.specs.Read.{start_of, length_of}
use Rattle.book_judge.proofs.contents_bad.Given as goal

abbrev pub invariant-loop-i : goal.invariant-loop-i
invariant-loop-i l =
    (l.end ≡ start_at l.n (length_of l.s) l.i) × (l.end ≤ 4 + 4 * l.n + 65535 * l.i)
    × Passed (λ j. not (eqb (start_of l.s j) (start_at l.n (length_of l.s) j))) l.i
