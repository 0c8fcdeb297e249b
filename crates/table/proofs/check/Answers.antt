-- Each return is the first case of `check_of` whose test held; the tests before it did not.
use Rattle.std.proofs.Common.{◌≤◌, ◌≡◌, false, cond, sym, ap, ap₂, ◌∙◌, arith, rules}
use lib.Dec.{ltb}
use borrow.Author.Tests.{lt-ltb}
use Rattle.std.proofs.lemmas.Result.{err_from_is_err_and}
use Rattle.refusal.proofs.RefusalLaws.{not_done}
use Rattle.refusal.specs.Answer.{Answer}
use Rattle.graph.specs.Graph.{cyclic}
use Rattle.little.specs.Little.{byte_at, u32_at}
use Rattle.table.specs.Check.{answer, done, sizes_bad, first_bad, first_slot, check_of}
use Rattle.table.specs.Memory.{table_from}
use Rattle.table.proofs.SoundLaws.{Sized, sized}
use Rattle.table.proofs.ImageLaws.{judged-good, judged-bad, column-is}
use Rattle.table.proofs.check.Goals as goal
use Rattle.table.proofs.check.Goals.{Else-sizes_bad, In_ok-judge, After-row_cyclic}

pub returns-then-sizes_bad : goal.returns-then-sizes_bad
unfolding check_of table_from
returns-then-sizes_bad c = rw (← c.sizes_bad.ensures, c.if-sizes_bad.true)

-- past the first test
module _ (c : Else-sizes_bad) where
  sizes-good : sizes_bad (byte_at c.args.s.now 1) (byte_at c.args.s.now 2) ≡ false
  sizes-good = sym c.sizes_bad.ensures ∙ c.if-sizes_bad.false

  sizes : Sized (byte_at c.args.s.now 1) (byte_at c.args.s.now 2)
  sizes = sized _ _ sizes-good

pub judge-requires : goal.judge-requires
judge-requires c =
    let d = sizes (goal.at.judge-requires c).Else-sizes_bad in
    record { long = c.told-s; rules = search rules; cells = search rules; few-rules = d.rules; few-cells = d.cells }

pub returns-in_err-judge : goal.returns-in_err-judge
unfolding table_from
returns-in_err-judge c =
    let t = table_from c.args.s.now in
    let p = err_from_is_err_and c.from_residual.result c.from_residual.ensures.1 in
    let told = c.in_err-judge.ensures in
    rw (p.1, p.2)
    (told ∙ judged-bad t (sizes-good (goal.at.returns-in_err-judge c).Else-sizes_bad) (λ z. not_done _ (ap (λ (a : Answer). a.number) told ∙ z)))

-- past the second test no rule has a number
rules-good : (c : In_ok-judge) → let t = table_from c.args.s.now in ltb (first_bad t) t.n ≡ false
rules-good c = judged-good (table_from c.args.s.now) (ap (λ (a : Answer). a.number) (sym c.in_ok-judge.ensures))

pub returns-in-Some : goal.returns-in-Some
unfolding check_of table_from
returns-in-Some c =
    rw (
      sizes-good (goal.at.returns-in-Some c).Else-sizes_bad,
      rules-good (goal.at.returns-in-Some c).In_ok-judge,
      lt-ltb (first_slot (table_from c.args.s.now)) 32 (omega (arith, c.in-Some.ensures)),
      ← c.in-Some.ensures.1,
    )

pub column-requires : goal.column-requires
column-requires c =
    let l : c.from-m.result ≤ 32 = omega (arith, (sizes (goal.at.column-requires c).Else-sizes_bad).rules) in
    (l, λ i m. omega arith)

pub row_cyclic-requires : goal.row_cyclic-requires
row_cyclic-requires c = omega (arith, (sizes (goal.at.row_cyclic-requires c).Else-sizes_bad).rules)

-- past three tests: the cycle, by the row that was read on the way
rest : (c : After-row_cyclic) → let t = table_from c.args.s.now in c.from-m.result ≤ 32 → sizes_bad t.n t.k ≡ false → ltb (first_bad t) t.n ≡ false → check_of t ≡ cond c.row_cyclic.result (answer 10 255) done
unfolding check_of table_from
rest c l s r = rw (s, r, c.in_default.ensures, ← ap₂ cyclic c.from-m.ensures (c.column.ensures ∙ column-is c.args.s.now _ c.from-m.ensures l (λ r. r.precedes) 8 (λ i. ap (u32_at c.args.s.now) (omega arith))), ← c.row_cyclic.ensures)

pub returns-then-row_cyclic : goal.returns-then-row_cyclic
unfolding table_from
returns-then-row_cyclic c =
    let d = goal.at.returns-then-row_cyclic c in
    sym (rest d.After-row_cyclic (omega (arith, (sizes d.Else-sizes_bad).rules)) (sizes-good d.Else-sizes_bad) (rules-good d.In_ok-judge) ∙ rw c.if-row_cyclic.true)

pub returns : goal.returns
unfolding table_from
returns c =
    let d = goal.at.returns c in
    sym (rest d.After-row_cyclic (omega (arith, (sizes d.Else-sizes_bad).rules)) (sizes-good d.Else-sizes_bad) (rules-good d.In_ok-judge) ∙ rw c.if-row_cyclic.false)
