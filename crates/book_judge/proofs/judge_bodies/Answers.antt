-- Each return is the case of `bodies_of` that its tests leave.
use Rattle.std.proofs.Common.{◌≡◌, ℕ, ◌<◌, ◌≤◌, List, get_or, true, false, cond, take, sym, ap, ap₂, ◌∙◌, subst, arith, rules, refl}
use Rattle.std.proofs.lemmas.Result.{err_from_is_err_and}
use Rattle.mask.proofs.LoopsLaws.{passed_none, passed-more}
use Rattle.graph.specs.Graph.{cyclic}
use Rattle.refusal.specs.RefusalNumbers.{fault_of, answer_of}
use Rattle.rule.specs.declared.Rule.{Rule}
use Rattle.rule.specs.Fill.{filled}
use Rattle.rule.proofs.FillLaws.{is_filled}
use Rattle.rule.specs.Numbers.{not_zero, rule_number}
use Rattle.rule_check.specs.RuleCheckInner.{number_with, taken_in}
use Rattle.rule_check.proofs.NamesLaws.{named_none, named_more, number-named}
use Rattle.table.specs.Table.{rule_at, precedes_of}
use Rattle.table.specs.Check.{answer}
use Rattle.table.proofs.SoundLaws.{refused, rule_refused}
use Rattle.book_judge.specs.Read.{rule_in, number_in, table_in, refusal, told}
use Rattle.book_judge.specs.BookJudgeInner.{Inside, taken, n_of, k_of, body_in, body_bad, Stretch, bodies_of}
use Rattle.book_judge.proofs.ReadLaws.{rule_in_lem, number-body, number-good, refused-at, none-refused}
use Rattle.book_judge.proofs.InsideLaws.{counts, room}
use Rattle.book_judge.proofs.JudgeLaws.{body-long, heads}
use Rattle.book_judge.proofs.judge_bodies.Goals as goal
use Rattle.book_judge.proofs.judge_bodies.Goals.{After-start-at, After-judge_body, After-row_cyclic}

pub loop-i-init : goal.loop-i-init
loop-i-init c = (refl, passed_none, named_none _ _)

pub returns-then-body_bad : goal.returns-then-body_bad
returns-then-body_bad c =
    let s = c.args.s.now in
    let i = c.loop-i.i-counter in
    let l : i < n_of s = omega arith in
    let e : body_bad s i ≡ true = sym c.body_bad.ensures ∙ c.if-body_bad.true in
    sym (ap told (refused-at s i c.loop-i.invariant.1 5 l (number-body s i l e) (λ z. omega arith)))

-- a body that is good has room in the bytes
lies : (c : After-start-at) → Stretch c.args.s.now c.start-at.result
lies c =
    let s = c.args.s.now in
    let i = c.loop-i.i-counter in
    subst (Stretch s) (sym c.start-at.ensures.0)
    (room s i (c.requires.3.bodies i (omega arith)) (counts s i (sym c.body_bad.ensures ∙ c.if-body_bad.false)))

pub name_of-name-requires : goal.name_of-name-requires
name_of-name-requires c = lies c

pub judge_body-requires : goal.judge_body-requires
judge_body-requires c = (lies (goal.at.judge_body-requires c).After-start-at, c.requires.3.few, c.requires.2)

module _ (c : After-judge_body) where
  abbrev s : List ℕ
  s = c.args.s.now

  abbrev i : ℕ
  i = c.loop-i.i-counter

  low : i < n_of s
  low = omega arith

  good : body_bad s i ≡ false
  good = sym c.body_bad.ensures ∙ c.if-body_bad.false

  named : c.name_of-name.result ≡ (body_in s i).name
  named = c.name_of-name.ensures ∙ ap (λ p. (rule_in s p).name) c.start-at.ensures.0

  -- the number that was given is the rule's, after the rules before it
  number : fault_of c.judge_body.result ≡ rule_number (n_of s) (k_of s) (table_in s).rules i (body_in s i)
  number =
      c.judge_body.ensures
      ∙ ap₂ (λ b p. number_with c.args.n c.args.k b (rule_in s p))
      (c.taken-taken.ensures ∙ ap (taken_in (take i c.loop-i.names)) named) c.start-at.ensures.0
      ∙ number-named c.args.n c.args.k c.loop-i.names (table_in s).rules i (body_in s i) (omega arith) c.loop-i.invariant.2 (body-long s i good)
      ∙ ap₂ (λ n k. rule_number n k (table_in s).rules i (body_in s i)) c.requires.0 c.requires.1

  found : number_in s i ≡ fault_of c.judge_body.result
  found = number-good s i low good ∙ sym number

pub returns-in_err-map_err : goal.returns-in_err-map_err
returns-in_err-map_err c =
    let p = err_from_is_err_and c.from_residual.result c.from_residual.ensures.1 in
    let w = rule_refused c.judge_body.result c.map_err.result c.in_err-map_err.field-0.0 c.loop-i.i-counter _ c.map_err.ensures.cases c.in_err-map_err.was (λ f k. search rules) in
    let e : answer_of c.from_residual.result ≡ answer (fault_of c.judge_body.result) c.loop-i.i-counter = rw (p.1, p.2) w in
    let n : fault_of c.judge_body.result ≡ 0 → ⊥ = refused c.from_residual.result _ e c.from_residual.ensures.0 in
    let d = (goal.at.returns-in_err-map_err c).After-judge_body in
    e ∙ sym (ap told (refused-at (s d) (i d) d.loop-i.invariant.1 _ (low d) (found d) n))

pub loop-i-preserved : goal.loop-i-preserved
loop-i-preserved c =
    let z : fault_of c.judge_body.result ≡ 0 = search rules in
    let d = (goal.at.loop-i-preserved c).After-judge_body in (
      search rules,
      passed-more d.loop-i.invariant.1 (ap not_zero (found d ∙ z)),
      rw (named d)
          (named_more (n_of (s d)) (k_of (s d)) d.loop-i.names (table_in (s d)).rules (i d) (body_in (s d) (i d)) d.loop-i.invariant.2 (omega arith)
          (rule_in_lem (s d) (i d) (low d)) (body-long (s d) (i d) (good d)) (sym (number d) ∙ z)),
    )

pub row-row-requires : goal.row-row-requires
row-row-requires c =
    let few : c.from.result ≤ 32 = omega (arith, c.requires.3.few) in
    let h = heads c.args.s.now c.loop-i.i-counter c.loop-i.invariant.1 (omega arith) (subst (Inside c.args.s.now) c.requires.0 c.requires.3) in
    (few, λ r l. let k = h r (omega arith) in search rules)

-- after the loop no rule has a number, and the row is the table's: what is left is 10
ended : (c : After-row_cyclic) → bodies_of c.args.s.now ≡ cond c.row_cyclic.result (refusal 10 255) (taken (table_in c.args.s.now))
unfolding table_in
ended c =
    let s = c.args.s.now in
    let n = c.from.result in
    let e : n ≡ n_of s = omega arith in
    let r = c.row-row.ensures in
    let few : n ≤ 32 = omega (arith, c.requires.3.few) in
    let row : c.row-row.result ≡ precedes_of (table_in s) =
    is_filled 32 0 (λ i. (rule_at (table_in s) i).precedes) n c.row-row.result few r.size
    (λ i l.
    let p = r.below i l in
    let q : get_or c.row-row.result i 0 ≡ (body_in s i).precedes = search rules in
    q ∙ ap (λ (x : Rule). x.precedes) (sym (rule_in_lem s i (omega arith))))
    r.beyond
    ∙ ap (filled 32 0 (λ i. (rule_at (table_in s) i).precedes)) e in
    let circles : c.row_cyclic.result ≡ cyclic (n_of s) (precedes_of (table_in s)) = c.row_cyclic.ensures ∙ ap₂ cyclic (c.from-2.ensures ∙ c.requires.0) row in
    none-refused s c.loop-i.i-counter c.loop-i.invariant.1 (omega arith) ∙ rw circles

pub returns-then-row_cyclic : goal.returns-then-row_cyclic
returns-then-row_cyclic c =
    sym (ap told (ended (goal.at.returns-then-row_cyclic c).After-row_cyclic)
    ∙ ap (λ b. told (cond b (refusal 10 255) (taken (table_in c.args.s.now)))) c.if-row_cyclic.true)

pub returns : goal.returns
returns c =
    sym (ap told (ended (goal.at.returns c).After-row_cyclic)
    ∙ ap (λ b. told (cond b (refusal 10 255) (taken (table_in c.args.s.now)))) c.if-row_cyclic.false)
