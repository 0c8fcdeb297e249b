-- Past the first three tests the last decides: whether a waiting rule goes before r.
use Rattle.std.proofs.Common.{◌≡◌, true, false, arith, rules, ◌∙◌}
use lib.Dec.{leb}
use borrow.Author.Tests.{lt-leb}
use Rattle.little.specs.Little.{byte_at}
use Rattle.table.specs.Memory.{table_from}
use Rattle.machine_spec.specs.State.{waits, held_back}
use Rattle.machine_spec.specs.Step.{step_numbers}
use Rattle.machine_run.proofs.RunsLaws.{held_by}
use Rattle.machine.proofs.may_step.Goals as goal
use Rattle.machine.proofs.may_step.Goals.{After-has-2}

held : (c : After-has-2) → c.has-2.result ≡ held_back (table_from c.args.table.now) c.args.s.now c.args.r
held c =
    c.has-2.ensures ∙ c.gather.ensures c.args.r
    ∙ held_by (table_from c.args.table.now) c.args.s.now c.goes_before-rows.result c.goes_before-rows.ensures c.args.r

-- the tests before it did not hold
passed : (c : After-has-2) → (leb (table_from c.args.table.now).n c.args.r ≡ false) × (waits c.args.s.now c.args.r ≡ true)
unfolding table_from
passed c = (lt-leb (byte_at c.args.table.now 1) c.args.r (omega (arith, c.if-from-i.false, c.from.ensures)), search rules)

pub returns-then-has : goal.returns-then-has
unfolding step_numbers
returns-then-has c =
    let d = (goal.at.returns-then-has c).After-has-2 in
    rw (c.in_ok-fits.ensures, (passed d).0, (passed d).1, ← held d, c.if-has.true)

pub returns : goal.returns
unfolding step_numbers
returns c =
    let d = (goal.at.returns c).After-has-2 in
    rw (c.in_ok-fits.ensures, (passed d).0, (passed d).1, ← held d, c.if-has.false)
