-- The name of a body, and that the body lies in the bytes.
use mathlib.Core.Path.{◌≡◌}
use mathlib.Core.Bool.{false}
use mathlib.Core.List.{List}
use Prim.Native.Nat.{ℕ, ◌+◌, ◌*◌, ◌<◌, ◌≤◌}
use native.Mathlib.Omega.{arith}
use borrow.Author.Tests.{eqb-true, not-false}
use Rattle.mask.proofs.LoopsLaws.{Passed}
use Rattle.rule.specs.Numbers.{not_zero}
use native.Mathlib.Nat.{le_refl}
use lib.ListN.{length}
use Rattle.little.specs.Little.{byte_at}
use Rattle.rule_read.proofs.NameReadLaws.{name-long}
use Rattle.book_judge.specs.Read.{start_of, number_in}
use Rattle.book_judge.proofs.InsideLaws.{counts, room}
use Rattle.book_judge.proofs.ReadLaws.{right}
use Rattle.rule_check.specs.RuleCheckInner.{Lies}
use Rattle.book_judge.specs.BookJudgeInner.{n_of, Inside, body_in, body_bad, Stretch}

module _ (s : List ℕ) (i : ℕ) (good : body_bad s i ≡ false) where
  pub body-long : length (body_in s i).name ≡ 16
  body-long =
      let at = start_of s i in
      name-long s (at + 12 + 12 * byte_at s (at + 8) + 20 * byte_at s (at + 9)) (byte_at s (at + 10)) (counts s i good).counted.letters

-- where no body has a number, each has a head in the bytes
pub heads : (s : List ℕ) (i : ℕ) → Passed (λ x. not_zero (number_in s x)) i → n_of s ≤ i → Inside s (n_of s) → (r : ℕ) → r < n_of s
    → (r < 32) × (8 + 4 * r ≤ length s) × (start_of s r + 8 ≤ length s)
heads s i h l p r m =
    let z = eqb-true (number_in s r) 0 (not-false _ (h.none r (omega arith))) in
    let k = room s r (p.bodies r m) (counts s r (right s r m z).body) in
    (omega (arith, p.few), omega (arith, p.contents), omega (arith, k.inside))

-- with its own counts a body lies in the bytes
pub stretch_lies : (s : List ℕ) (at : ℕ) → Stretch s at → Lies s at (byte_at s (at + 8)) (byte_at s (at + 9)) (byte_at s (at + 10))
stretch_lies s at r =
    record { room = r; counted = λ e. record { tests = le_refl _; assigns = le_refl _; letters = le_refl _ } }
