use Rattle.std.proofs.Common.{◌≡◌, ℕ, List, ◌+◌, ◌*◌, ◌≤◌, ◌<◌, length, get_or, refl, sym, ap, ap₂, ◌∙◌, subst, arith}
use Rattle.little.specs.Put.{put}
use Rattle.little.proofs.PutLaws.{put-nil}
use Rattle.little.specs.Joined.{joined}
use Rattle.little.proofs.JoinedLaws.{put-joined}
use Rattle.rule.specs.declared.Rule.{Rule}
use Rattle.rule.specs.Empty.{no_rule}
use Rattle.rule.specs.RuleInner.{Counted}
use Rattle.rule_write.specs.Pieces.{body_bytes}
use Rattle.table.specs.Memory.{table_from}
use Rattle.table.specs.TableInner.{rule_from}
use Rattle.table.proofs.ImageLaws.{rule-from}
use Rattle.table.specs.BodyStarts.{body_size, start_at}
use Rattle.table.proofs.BodyStartsLaws.{start-more, starts-within}
use Rattle.book_parts.specs.BookPartsInner.{sizes_of, bodies_bytes}
use Rattle.book_parts.proofs.PartsLaws.{length-bodies}
use Rattle.book_parts.proofs.write_bodies.Goals as goal
use Rattle.book_parts.proofs.write_bodies.Goals.{In-loop-i}

pub overflow_mul-at : goal.overflow_mul-at
overflow_mul-at c = omega (arith, c.requires.0.few)

pub overflow_add-at : goal.overflow_add-at
overflow_add-at c = omega (arith, c.requires.0.few)

pub loop-i-init : goal.loop-i-init
unfolding start_at joined
loop-i-init c = (refl, sym (put-nil c.args.out.now (4 + 4 * c.args.n)))

module _ (c : In-loop-i) where
  abbrev its_rules : List Rule
  its_rules = (table_from c.args.table.now).rules

  small : c.loop-i.i < 32
  small = omega (arith, c.requires.0.few)

  rule-is : get_or its_rules c.loop-i.i no_rule ≡ rule_from c.args.table.now c.loop-i.i
  rule-is = rule-from c.args.table.now c.loop-i.i small

  -- the next body lies in the buffer
  inside : c.loop-i.at + body_size (rule_from c.args.table.now c.loop-i.i) ≤ length c.loop-i.out
  inside =
      omega (arith, c.loop-i.invariant.0, c.requires.1, starts-within c.args.n (sizes_of its_rules) c.loop-i.i c.loop-i-test.true, ap body_size rule-is)

pub write_body-requires : goal.write_body-requires
write_body-requires c =
    let d = (goal.at.write_body-requires c).In-loop-i in
    (subst Counted (rule-is d) (d.requires.0.counts d.loop-i.i d.loop-i-test.true), small d, inside d)

pub body_size-at-requires : goal.body_size-at-requires
body_size-at-requires c = small (goal.at.body_size-at-requires c).In-loop-i

pub overflow_add-at-in-loop-i : goal.overflow_add-at-in-loop-i
overflow_add-at-in-loop-i c = omega (arith, inside (goal.at.overflow_add-at-in-loop-i c).In-loop-i, c.body_size-at.ensures.0)

pub loop-i-preserved : goal.loop-i-preserved
loop-i-preserved c =
    let d = (goal.at.loop-i-preserved c).In-loop-i in
    let l = d.loop-i in
    let n = length-bodies d.args.n (its_rules d) l.i in
    let room = inside d in
    let e = sym (rule-is d) in (
      ap₂ ◌+◌ l.invariant.0 (c.body_size-at.ensures.0 ∙ ap body_size e) ∙ sym (start-more d.args.n (sizes_of (its_rules d)) l.i),
      put-joined d.args.out.now (4 + 4 * d.args.n) (λ j. body_bytes (get_or (its_rules d) j no_rule)) l.i l.invariant.1 (omega arith)
          l.at (omega arith) (c.write_body.ensures ∙ ap (λ (r : Rule). put l.out l.at (body_bytes r)) e),
    )

pub returns : goal.returns
returns c =
    let a = c.args in
    let e : c.loop-i.i ≡ a.n = omega arith in
    c.loop-i.invariant.1 ∙ ap (λ (i : ℕ). put a.out.now (4 + 4 * a.n) (bodies_bytes (table_from a.table.now).rules i)) e
