-- Each return is the first case of `read_of` whose test held; the tests before it did not.
use Rattle.std.proofs.Common.{◌≡◌, false, sym, ap, ◌∙◌, rules}
use borrow.Author.Tests.{lt-ltb, le-ltb, eq-eqb, ne_eqb}
use Rattle.table.specs.Check.{sizes_bad}
use Rattle.table.proofs.SoundLaws.{Sized, sized}
use Rattle.book_judge.specs.Read.{length_bad, head_bad, contents_bad, read_of}
use Rattle.book_judge.specs.BookJudgeInner.{n_of, k_of, bodies_of}
use Rattle.book_judge.proofs.InsideLaws.{fitting, inside}
use Rattle.book_judge.proofs.judge.Goals as goal
use Rattle.book_judge.proofs.judge.Goals.{Else-sizes_bad, Else-book-gt9220, Else-book-ne0, After-contents_bad}
use Rattle.book_judge.proofs.judge.Goals.{then-book-lt4-via-then-book-lt4, then-book-lt4-via-else-book-lt4+then-book-gt9220}
use Rattle.book_judge.proofs.judge.Goals.{then-book-ne1-via-then-book-ne1, then-book-ne1-via-else-book-ne1+then-book-ne0}

pub returns-then-book-lt4 : goal.returns-then-book-lt4
unfolding read_of
returns-then-book-lt4 c =
    elim c.then-book-lt4.branch [
      | then-book-lt4-via-then-book-lt4 w ↦ rw (lt-ltb _ _ w.if-book-lt4.true)
      | then-book-lt4-via-else-book-lt4+then-book-gt9220 w ↦ rw (le-ltb _ _ w.if-book-lt4.false, lt-ltb _ _ w.if-book-gt9220.true)
    ]

-- past the first two tests the length is right
long : (c : Else-book-gt9220) → length_bad c.args.book.now ≡ false
long c = rw (le-ltb _ _ c.if-book-lt4.false, le-ltb _ _ c.if-book-gt9220.false)

pub returns-then-book-ne1 : goal.returns-then-book-ne1
unfolding read_of
returns-then-book-ne1 c =
    elim c.then-book-ne1.branch [
      | then-book-ne1-via-then-book-ne1 w ↦ rw (long (goal.at.returns-then-book-ne1 c).Else-book-gt9220, ne_eqb _ _ w.if-book-ne1.true)
      | then-book-ne1-via-else-book-ne1+then-book-ne0 w ↦
          rw (long (goal.at.returns-then-book-ne1 c).Else-book-gt9220, eq-eqb _ _ w.if-book-ne1.false, ne_eqb _ _ w.if-book-ne0.true)
    ]

-- past the next two the header is
head : (c : Else-book-ne0) → head_bad c.args.book.now ≡ false
head c = rw (eq-eqb _ _ c.if-book-ne1.false, eq-eqb _ _ c.if-book-ne0.false)

pub returns-then-sizes_bad : goal.returns-then-sizes_bad
unfolding read_of
returns-then-sizes_bad c =
    let d = goal.at.returns-then-sizes_bad c in
    rw (long d.Else-book-gt9220, head d.Else-book-ne0, sym c.sizes_bad.ensures ∙ c.if-sizes_bad.true)

-- past the fifth the sizes are
sized-good : (c : Else-sizes_bad) → let s = c.args.book.now in sizes_bad (n_of s) (k_of s) ≡ false
sized-good c = sym c.sizes_bad.ensures ∙ c.if-sizes_bad.false

sizes : (c : Else-sizes_bad) → let s = c.args.book.now in Sized (n_of s) (k_of s)
sizes c = sized _ _ (sized-good c)

pub contents_bad-requires : goal.contents_bad-requires
contents_bad-requires c = rw c.from.ensures (sizes (goal.at.contents_bad-requires c).Else-sizes_bad).rules

contents : (c : After-contents_bad) → let s = c.args.book.now in contents_bad s (n_of s) ≡ c.contents_bad.result
contents c = ap (contents_bad c.args.book.now) (sym c.from.ensures) ∙ sym c.contents_bad.ensures

pub returns-then-contents_bad : goal.returns-then-contents_bad
unfolding read_of
returns-then-contents_bad c =
    let d = goal.at.returns-then-contents_bad c in
    rw (long d.Else-book-gt9220, head d.Else-book-ne0, sized-good d.Else-sizes_bad, contents d.After-contents_bad ∙ c.if-contents_bad.true)

pub judge_bodies-requires : goal.judge_bodies-requires
judge_bodies-requires c =
    let d = goal.at.judge_bodies-requires c in
    let s = c.args.book.now in
    let f = fitting s (n_of s) (contents d.After-contents_bad ∙ c.if-contents_bad.false) in
    (search rules, search rules, (sizes d.Else-sizes_bad).cells, inside s (n_of s) (sizes d.Else-sizes_bad).rules f)

pub returns : goal.returns
unfolding read_of bodies_of
returns c =
    let d = goal.at.returns c in
    rw (c.judge_bodies.ensures, long d.Else-book-gt9220, head d.Else-book-ne0, sized-good d.Else-sizes_bad, contents d.After-contents_bad ∙ c.if-contents_bad.false)
