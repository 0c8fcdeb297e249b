-- A rule of a sound table can be stepped.
use Prim.Native.Nat.{ℕ, ◌<◌}
use Rattle.table.specs.Table.{Table, rule_at}
use Rattle.table.specs.Check.{Sound}
use Rattle.table.proofs.SoundLaws.{parts}
use Rattle.rule_act.specs.RuleActInner.{Steppable}
use Rattle.rule_act.proofs.InRangeLaws.{steppable}

pub steppable-at : (t : Table) → Sound t → (r : ℕ) → r < t.n → Steppable (rule_at t r)
steppable-at t h r l = steppable t.n t.k t.rules r (rule_at t r) (parts t h).sizes.cells ((parts t h).rules r l)
