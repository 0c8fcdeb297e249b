use Rattle.std.proofs.Common.{List, ◌≡◌, ◌≢◌, ℕ, Bool, not, eqb, refl, sym, ap, ◌∙◌, arith}
use borrow.Author.Tests.{lt-ltb, le-ltb, eq-eqb, ne_eqb}
use Rattle.mask.proofs.SearchLaws.{some_intro, some-none}
use Rattle.mask.proofs.LoopsLaws.{passed_none, passed-more}
use Rattle.table.specs.BodyStarts.{start_at}
use Rattle.table.proofs.BodyStartsLaws.{start-more}
use Rattle.book_judge.specs.Read.{start_of, length_of, contents_bad}
use Rattle.book_judge.proofs.contents_bad.Goals as goal

pub returns-then-s-n : goal.returns-then-s-n
unfolding contents_bad
returns-then-s-n c = rw (lt-ltb _ _ c.if-s-n.true)

pub loop-i-init : goal.loop-i-init
unfolding start_at
loop-i-init c = (refl, omega arith, passed_none)

-- whether body i starts elsewhere
abbrev elsewhere : List ℕ → ℕ → ℕ → Bool
elsewhere s n i = not (eqb (start_of s i) (start_at n (length_of s) i))

pub returns-then-start-end : goal.returns-then-start-end
unfolding contents_bad
returns-then-start-end c =
    let s = c.args.s.now in
    let n = c.args.n in
    let i = c.loop-i.i in
    let ne : start_of s i ≢ start_at n (length_of s) i = λ e. c.if-start-end.true (c.start.ensures.0 ∙ e ∙ sym c.loop-i.invariant.0) in
    rw (le-ltb _ _ c.if-s-n.false, some_intro n (elsewhere s n) i c.loop-i-test.true (ap not (ne_eqb _ _ ne)))

pub loop-i-preserved : goal.loop-i-preserved
loop-i-preserved c =
    let l = c.loop-i.invariant in (
      rw (start-more, l.0, c.size-end.ensures.0),
      omega arith,
      passed-more l.2 (ap not (eq-eqb _ _ (sym c.start.ensures.0 ∙ c.if-start-end.false ∙ l.0))),
    )

pub returns : goal.returns
unfolding contents_bad
returns c =
    let s = c.args.s.now in
    let n = c.args.n in
    let e : c.loop-i.i ≡ n = omega arith in
    let l = c.loop-i.invariant in
    rw (le-ltb _ _ c.if-s-n.false, some-none n (elsewhere s n) (λ i h. l.2.none i (omega arith)), l.0, e)
