-- Contents that fit put each body inside the bytes, and a body that 5 does not refuse has room for its parts.
use mathlib.Core.Path.{◌≡◌}
use mathlib.Core.List.{List}
use mathlib.Core.Bool.{Bool, false, not, ◌||◌}
use Prim.Native.Nat.{ℕ, ◌+◌, ◌*◌, ◌<◌, ◌≤◌}
use native.Mathlib.Omega.{arith}
use lib.Dec.{ltb, eqb}
use lib.ListN.{length}
use borrow.Author.Tests.{ltb-false, eqb-true, not-false}
use Rattle.mask.specs.Search.{some}
use Rattle.mask.proofs.SearchLaws.{or_false_both, some_false}
use Rattle.little.specs.Little.{byte_at}
use Rattle.rule.specs.Numbers.{counts_bad}
use Rattle.rule.specs.RuleInner.{Counted}
use Rattle.rule.proofs.NumbersLaws.{counted}
use Rattle.rule_read.specs.RuleReadInner.{Room}
use Rattle.table.specs.BodyStarts.{body_size, start_at}
use Rattle.table.proofs.BodyStartsLaws.{starts-within}
use Rattle.book_judge.specs.Read.{start_of, length_of, contents_bad}
use Rattle.book_judge.specs.BookJudgeInner.{Inside, body_in, body_bad}

-- what 4 does not refuse
pub record Fitting (s : List ℕ) (n : ℕ) : Type 0 where
  pub contents : 4 + 4 * n ≤ length s
  pub starts : (i : ℕ) → i < n → start_of s i ≡ start_at n (length_of s) i
  pub last : start_at n (length_of s) n ≡ length s

equal : (a b : ℕ) → not (eqb a b) ≡ false → a ≡ b
equal a b e = eqb-true a b (not-false (eqb a b) e)

pub fitting : (s : List ℕ) (n : ℕ) → contents_bad s n ≡ false → Fitting s n
unfolding contents_bad
fitting s n e =
    let start = start_at n (length_of s) in
    let p : ℕ → Bool = λ j. not (eqb (start_of s j) (start j)) in
    let q = not (eqb (start n) (length s)) in
    let a = or_false_both (ltb (length s) (4 + 4 * n)) (some n p || q) e in
    let b = or_false_both (some n p) q a.1 in
    record {
      contents = ltb-false (length s) (4 + 4 * n) a.0;
      starts = λ i l. equal (start_of s i) (start i) (some_false n p b.0 i l);
      last = equal (start n) (length s) b.1;
    }

pub inside : (s : List ℕ) (n : ℕ) → n ≤ 32 → Fitting s n → Inside s n
inside s n few f =
    record {
      few = few;
      contents = f.contents;
      bodies = λ i h. omega (arith, f.starts i h, f.last, starts-within n (length_of s) i h);
    }

-- what 5 does not refuse of a body
pub record Counts (s : List ℕ) (i : ℕ) : Type 0 where
  pub counted : Counted (body_in s i)
  pub size : length_of s i ≡ body_size (body_in s i)

pub counts : (s : List ℕ) (i : ℕ) → body_bad s i ≡ false → Counts s i
unfolding body_bad
counts s i e =
    let r = body_in s i in
    let p = or_false_both (counts_bad r) (not (eqb (length_of s i) (body_size r))) e in
    record { counted = counted r p.0; size = equal (length_of s i) (body_size r) p.1 }

pub room : (s : List ℕ) (i : ℕ) → start_of s i + length_of s i ≤ length s → Counts s i
    → Room s (start_of s i) (byte_at s (start_of s i + 8)) (byte_at s (start_of s i + 9)) (byte_at s (start_of s i + 10))
room s i h c =
    let k = c.counted in
    record { tests = k.tests; assigns = k.assigns; letters = k.letters; inside = omega (arith, c.size) }
