-- How many bytes a table has: one rule after another, 284 bytes each.
use mathlib.Core.Path.{◌≡◌}
use mathlib.Core.List.{List}
use Prim.Native.Nat.{ℕ, ◌*◌}
use native.Mathlib.Omega.{arith}
use lib.ListN.{length, get_or}
use Rattle.little.specs.Joined.{joined}
use Rattle.little.proofs.JoinedLaws.{length-joined}
use Rattle.rule.specs.declared.Rule.{Rule}
use Rattle.rule.specs.Empty.{no_rule}
use Rattle.rule_write.specs.RuleWriteInner.{slot_bytes}
use Rattle.rule_write.proofs.LengthsLaws.{length-rule}
use Rattle.table.specs.Table.{Table}
use Rattle.table.specs.Memory.{table_bytes}

-- the first i rules' bytes, one after another
abbrev pub rules_bytes : List Rule → ℕ → List ℕ
rules_bytes rules i = joined i (λ j. slot_bytes (get_or rules j no_rule))

pub length-rules : (rules : List Rule) (i : ℕ) → length (rules_bytes rules i) ≡ 284 * i
length-rules rules i =
    length-joined 284 i (λ j. slot_bytes (get_or rules j no_rule)) (λ j. length-rule (get_or rules j no_rule) 8 8 16)

pub length-table : (t : Table) → length (table_bytes t) ≡ 9092
unfolding table_bytes
length-table t = omega (arith, length-rules t.rules 32)
