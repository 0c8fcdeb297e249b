-- The three parts, each with its zeros, one where the other ends, are the slot.
use Rattle.std.proofs.Common.{◌+◌, ◌*◌, ap, sym, ◌∙◌, subst, arith}
use Rattle.little.specs.EachByte.{Bytes}
use Rattle.little.specs.Put.{put}
use Rattle.rule_read.specs.RuleReadInner.{Room}
use Rattle.book_judge.specs.BookJudgeInner.{Stretch}
use Rattle.book_read.proofs.SpreadLaws.{put-slot, padded-part}
use Rattle.book_read.proofs.put_body.Goals as goal

pub counts_at-c-requires : goal.counts_at-c-requires
counts_at-c-requires c = omega (arith, c.requires.2.inside, c.start-from.ensures.0)

pub returns : goal.returns
returns c =
    let s = c.args.s.now in
    let out = c.args.out.now in
    let to = 4 + 284 * c.args.i in
    let from = c.start-from.result in
    let r = c.counts_at-c.result in
    let n = c.counts_at-c.ensures in
    let b : Bytes s = record { small = λ j. omega (arith, c.type_inv.s j) } in
    let room : Room s from r.tests r.assigns r.letters = rw (n.tests, n.assigns, n.letters) (subst (Stretch s) (sym c.start-from.ensures.0) c.requires.2) in
    let e1 = padded-part s from (from + 12 + 12 * r.tests) (12 + 12 * r.tests) 108 (omega arith) (omega (arith, room.inside)) in
    let e2 = padded-part s (from + 12 + 12 * r.tests) (from + 12 + 12 * r.tests + 20 * r.assigns) (20 * r.assigns) 160 (omega arith) (omega (arith, room.inside)) in
    let e3 = padded-part s (from + 12 + 12 * r.tests + 20 * r.assigns) (from + 12 + 12 * r.tests + 20 * r.assigns + r.letters) r.letters 16 (omega arith) (omega (arith, room.inside)) in
    put-slot s b from r.tests r.assigns r.letters room out to (omega arith)
    (c.put_padded.ensures ∙ ap (put out to) e1) (c.put_padded-2.ensures ∙ ap (put c.put_padded.new.out (to + 108)) e2)
    (c.put_padded-3.ensures ∙ ap (put c.put_padded-2.new.out (to + 268)) e3)
    ∙ rw (n.tests, n.assigns, n.letters, c.start-from.ensures.0)
