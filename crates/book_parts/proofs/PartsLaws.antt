-- How long the contents and the bodies are, and that every start and every length fits 16 bits.
use mathlib.Core.Path.{◌≡◌}
use mathlib.Core.List.{List}
use Prim.Native.Nat.{ℕ, zero, suc, ◌+◌, ◌*◌, ◌≤◌, ◌<◌}
use native.Mathlib.Omega.{arith}
use lib.ListN.{length, get_or, length-append}
use Rattle.little.proofs.BytesLaws.{length_u16}
use Rattle.little.specs.Joined.{joined}
use Rattle.little.proofs.JoinedLaws.{length-joined}
use Rattle.rule.specs.declared.Rule.{Rule}
use Rattle.rule.specs.Empty.{no_rule}
use Rattle.rule.proofs.NumbersLaws.{counted}
use Rattle.rule_write.specs.Pieces.{body_bytes}
use Rattle.rule_write.proofs.LengthsLaws.{length-rule}
use Rattle.table.specs.Table.{Table}
use Rattle.table.specs.Check.{Sound}
use Rattle.table.proofs.SoundLaws.{parts}
use Rattle.table.specs.BodyStarts.{start_at}
use Rattle.book_parts.specs.BookPartsInner.{Ready, sizes_of, entry_bytes, contents_bytes, bodies_bytes}

pub length-entry : (n : ℕ) (rules : List Rule) (i : ℕ) → length (entry_bytes n rules i) ≡ 4
length-entry n rules i = simp (length-append, length_u16)

pub length-contents : (n : ℕ) (rules : List Rule) (i : ℕ) → length (contents_bytes n rules i) ≡ 4 * i
length-contents n rules i = length-joined 4 i (entry_bytes n rules) (length-entry n rules)

-- a start is where the bodies before it end
pub length-bodies : (n : ℕ) (rules : List Rule) (i : ℕ) → 4 + 4 * n + length (bodies_bytes rules i) ≡ start_at n (sizes_of rules) i
unfolding start_at joined
length-bodies n rules zero = omega arith
length-bodies n rules (suc i) =
    let r = get_or rules i no_rule in
    omega (
      arith,
      length-bodies n rules i,
      length-append (bodies_bytes rules i) (body_bytes r),
      length-rule r r.t r.a r.m,
    )

pub ready : (t : Table) → Sound t → Ready t.n t.rules
ready t s =
    let p = parts t s in
    record { few = p.sizes.rules; counts = λ i l. counted (get_or t.rules i no_rule) (p.rules i l).counts }

module _ (n : ℕ) (rules : List Rule) (r : Ready n rules) where
  pub size-most : (i : ℕ) → i < n → sizes_of rules i ≤ 284
  size-most i l = let c = r.counts i l in omega (arith, c.tests, c.assigns, c.letters)

  pub start-most : (i : ℕ) → i ≤ n → start_at n (sizes_of rules) i ≤ 132 + 284 * i
  unfolding start_at
  start-most zero l = omega (arith, r.few)
  start-most (suc i) l = omega (arith, start-most i (omega arith), size-most i l)
