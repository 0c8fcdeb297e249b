-- The number that was given is the rule's, after the rules before it.
use Rattle.std.proofs.Common.{◌≡◌, ℕ, List, take, sym, ap, ap₂, ◌∙◌, arith, rules, refl}
use Rattle.std.proofs.lemmas.Result.{err_from_is_err_and}
use Rattle.mask.proofs.LoopsLaws.{passed_none, passed-more}
use Rattle.refusal.specs.RefusalNumbers.{fault_of, answer_of}
use Rattle.rule.specs.Numbers.{not_zero, rule_number}
use Rattle.rule_read.specs.Parts.{name_in}
use Rattle.rule_check.specs.RuleCheckInner.{number_with, taken_in}
use Rattle.rule_check.proofs.NamesLaws.{named_none, named_more, number-named}
use Rattle.table.specs.Check.{answer, number_at}
use Rattle.table.specs.Memory.{table_from}
use Rattle.table.specs.TableInner.{rule_from}
use Rattle.table.proofs.ImageLaws.{number-from, rule-from, from-long, slot_lies, judged-here, judged-none}
use Rattle.table.proofs.SoundLaws.{refused, rule_refused}
use Rattle.table.proofs.judge.Goals as goal
use Rattle.table.proofs.judge.Goals.{After-number_in}

pub loop-i-init : goal.loop-i-init
loop-i-init c = (refl, passed_none, named_none _ _)

pub number_in-requires : goal.number_in-requires
number_in-requires c =
    (slot_lies c.args.s.now c.loop-i.i-counter (omega arith), c.requires.few-rules, c.requires.few-cells)

module _ (c : After-number_in) where
  abbrev s : List ℕ
  s = c.args.s.now

  abbrev i : ℕ
  i = c.loop-i.i-counter

  named : c.read_name-name.result ≡ (rule_from s i).name
  named = c.read_name-name.ensures ∙ ap (λ p. name_in s p 16) (omega arith)

  number : fault_of c.number_in.result ≡ rule_number c.args.n c.args.k (table_from s).rules i (rule_from s i)
  number =
      c.number_in.ensures
      ∙ ap (λ b. number_with c.args.n c.args.k b (rule_from s i))
      (c.taken-taken.ensures ∙ ap (taken_in (take i c.loop-i.names)) named)
      ∙ number-named c.args.n c.args.k c.loop-i.names (table_from s).rules i (rule_from s i) (omega arith) c.loop-i.invariant.2 (from-long s i)

  at-number : number_at (table_from s) i ≡ fault_of c.number_in.result
  at-number =
      number-from s i (omega arith)
      ∙ ap₂ (λ n k. rule_number n k (table_from s).rules i (rule_from s i)) (sym c.requires.rules) (sym c.requires.cells)
      ∙ sym number

pub returns-in_err-map_err : goal.returns-in_err-map_err
unfolding table_from
returns-in_err-map_err c =
    let p = err_from_is_err_and c.from_residual.result c.from_residual.ensures.1 in
    let w = rule_refused c.number_in.result c.map_err.result c.in_err-map_err.field-0.0 c.loop-i.i-counter _ c.map_err.ensures.cases c.in_err-map_err.was (λ f k. search rules) in
    let e : answer_of c.from_residual.result ≡ answer (fault_of c.number_in.result) c.loop-i.i-counter = rw (p.1, p.2) w in
    let n : fault_of c.number_in.result ≡ 0 → ⊥ = refused c.from_residual.result _ e c.from_residual.ensures.0 in
    let d = (goal.at.returns-in_err-map_err c).After-number_in in
    e ∙ sym (judged-here (table_from (s d)) (i d) d.loop-i.invariant.1 _ (omega arith) (at-number d) n)

pub loop-i-preserved : goal.loop-i-preserved
loop-i-preserved c =
    let z : fault_of c.number_in.result ≡ 0 = search rules in
    let d = (goal.at.loop-i-preserved c).After-number_in in (
      search rules,
      passed-more d.loop-i.invariant.1 (ap not_zero (at-number d ∙ z)),
      rw (named d)
          (named_more d.args.n d.args.k d.loop-i.names (table_from (s d)).rules (i d) (rule_from (s d) (i d))
          d.loop-i.invariant.2 (omega arith) (rule-from (s d) (i d) (omega arith)) (from-long (s d) (i d)) (sym (number d) ∙ z)),
    )

pub returns : goal.returns
unfolding table_from
returns c = sym (judged-none (table_from c.args.s.now) _ c.loop-i.invariant.1 (omega arith))
