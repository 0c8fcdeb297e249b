-- The first mark 2 belongs to a pair that fails, so judging it again gives its culprits.
use Rattle.std.proofs.Common.{◌≡◌, ℕ, ◌<◌, false, true, List, Option, eqb, ap, ◌∙◌, rules, tests, arith, take_all}
use Rattle.std.specs.Prelude.{MatchOption}
use Rattle.mask.specs.Search.{least_at}
use Rattle.mask.proofs.AnyLaws.{least_of_position-slice, least_cases}
use Rattle.mask.proofs.CountsLaws.{count_none}
use Rattle.mask.proofs.SearchLaws.{least_by}
use Rattle.analysis_marks.specs.Marks.{fails_at}
use Rattle.analysis_marks.proofs.MarkedLaws.{first_fails, first_some}
use Rattle.analysis_marks.proofs.first_failing.Goals as goal
use Rattle.analysis_marks.proofs.first_failing.Goals.{After-position}

-- where the first mark 2 stands
abbrev FirstTwo : List ℕ → Option ℕ → Type 0
FirstTwo q o =
    MatchOption o ((i : ℕ) → i < 496 → fails_at q i ≡ false)
    (λ k. (k < 496) × (fails_at q k ≡ true) × ((i : ℕ) → i < k → fails_at q i ≡ false))

first : (c : After-position) → FirstTwo c.args.q.now c.position.result
first c =
    let q = c.args.q.now in
    least_cases 496 (fails_at q) c.position.result
    (least_of_position-slice {s = c.iter.result} q 0 (λ m. eqb m 2) _ _ _ (rw c.iter.ensures.rest (take_all 496 q (omega (arith, c.told-q)))) c.position.ensures.ran (λ x b p k. search (rules, tests))
    ∙ ap (λ (n : ℕ). least_at n (fails_at q)) c.told-q)

pub returns-in_err-k : goal.returns-in_err-k
returns-in_err-k c =
    let none = rw c.in_err-k.was at (first (goal.at.returns-in_err-k c).After-position) in
    rw c.from_residual.ensures (count_none 496 (fails_at c.args.q.now) none)

pub returns-in_err-culprits : goal.returns-in_err-culprits
returns-in_err-culprits c =
    let p = c.pair_at-i.ensures in
    let k = rw c.in_ok-k.was at (first (goal.at.returns-in_err-culprits c).After-position) in
    absurd (first_fails c.requires k.0 k.1 p.0 p.1 p.2 c.in_err-culprits.ensures)

pub returns : goal.returns
returns c =
    let p = c.pair_at-i.ensures in
    let k = rw c.in_ok-k.was at (first (goal.at.returns c).After-position) in
    first_some (least_by 496 (fails_at c.args.q.now) _ (record { bound = omega (arith, k.0); is = λ l. k.1; first = k.2 }))
    p.0 p.1 p.2 c.in_ok-culprits.ensures
