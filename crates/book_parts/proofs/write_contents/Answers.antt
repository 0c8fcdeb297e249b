use Rattle.std.proofs.Common.{◌≡◌, ℕ, List, ◌++◌, ◌+◌, ◌*◌, ◌≤◌, ◌<◌, refl, sym, ap, ap₂, ◌∙◌, arith}
use Rattle.little.specs.Put.{put}
use Rattle.little.proofs.PutLaws.{put-nil}
use Rattle.little.specs.Bytes.{u16_bytes}
use Rattle.little.specs.Joined.{joined}
use Rattle.little.proofs.JoinedLaws.{put-joined}
use Rattle.rule.specs.declared.Rule.{Rule}
use Rattle.table.specs.Memory.{table_from}
use Rattle.table.proofs.ImageLaws.{rule-from}
use Rattle.table.specs.BodyStarts.{body_size, start_at}
use Rattle.table.proofs.BodyStartsLaws.{start-more}
use Rattle.book_parts.specs.BookPartsInner.{sizes_of, entry_bytes, contents_bytes}
use Rattle.book_parts.proofs.PartsLaws.{start-most, length-contents}
use Rattle.book_parts.proofs.write_contents.Goals as goal
use Rattle.book_parts.proofs.write_contents.Goals.{After-body_size-size}

pub overflow_add-start : goal.overflow_add-start
overflow_add-start c = omega (arith, c.requires.0.few)

pub loop-i-init : goal.loop-i-init
unfolding start_at joined
loop-i-init c = (refl, sym (put-nil c.args.out.now 4))

pub body_size-size-requires : goal.body_size-size-requires
body_size-size-requires c = omega (arith, c.requires.0.few)

module _ (c : After-body_size-size) where
  abbrev its_rules : List Rule
  its_rules = (table_from c.args.table.now).rules

  small : c.loop-i.i < 32
  small = omega (arith, c.requires.0.few)

  -- a start is at most 9,220
  most : c.loop-i.start ≤ 9220
  most = omega (arith, c.loop-i.invariant.0, small, start-most c.args.n its_rules c.requires.0 c.loop-i.i (omega arith))

  -- the length of body i
  size_is : c.body_size-size.result ≡ sizes_of its_rules c.loop-i.i
  size_is = c.body_size-size.ensures.0 ∙ ap body_size (sym (rule-from c.args.table.now c.loop-i.i small))

pub write_entry-requires : goal.write_entry-requires
write_entry-requires c =
    let d = (goal.at.write_entry-requires c).After-body_size-size in
    (small d, omega (arith, most d), omega (arith, c.body_size-size.ensures.1), omega arith)

pub overflow_add-start-in-loop-i : goal.overflow_add-start-in-loop-i
overflow_add-start-in-loop-i c =
    omega (arith, most (goal.at.overflow_add-start-in-loop-i c).After-body_size-size, c.body_size-size.ensures.1)

pub loop-i-preserved : goal.loop-i-preserved
loop-i-preserved c =
    let d = (goal.at.loop-i-preserved c).After-body_size-size in
    let l = d.loop-i in
    let n = length-contents d.args.n (its_rules d) l.i in (
      ap₂ ◌+◌ l.invariant.0 (size_is d) ∙ sym (start-more d.args.n (sizes_of (its_rules d)) l.i),
      put-joined d.args.out.now 4 (entry_bytes d.args.n (its_rules d)) l.i l.invariant.1 (omega arith) (4 + 4 * l.i) (omega arith)
          (c.write_entry.ensures ∙ ap₂ (λ (x y : ℕ). put l.out (4 + 4 * l.i) (u16_bytes x ++ u16_bytes y)) l.invariant.0 (size_is d)),
    )

pub returns : goal.returns
returns c =
    let a = c.args in
    let e : c.loop-i.i ≡ a.n = omega arith in
    c.loop-i.invariant.1 ∙ ap (λ (i : ℕ). put a.out.now 4 (contents_bytes a.n (table_from a.table.now).rules i)) e
