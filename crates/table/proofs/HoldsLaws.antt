-- What memory holds: any 9,092 bytes load as a table whose numbers fit their types and whose arrays have their slots.
use mathlib.Core.Path.{◌≡◌}
use mathlib.Core.List.{List}
use Prim.Native.Nat.{ℕ, ◌+◌, ◌≤◌}
use native.Mathlib.Nat.{le_refl}
use native.Mathlib.Omega.{arith}
use lib.ListN.{length}
use Rattle.little.specs.EachByte.{Bytes}
use Rattle.rule.specs.Empty.{no_rule}
use Rattle.rule.proofs.FillLaws.{length-filled, each-filled}
use Rattle.rule_write.specs.HeldRule.{HeldRule}
use Rattle.rule_write.proofs.HeldLaws.{none-held, rule-held}
use Rattle.table.specs.Memory.{table_from, HeldTable}
use Rattle.table.specs.TableInner.{slot_start, rule_from}

pub slot_held : (s : List ℕ) → Bytes s → (i : ℕ) → slot_start i + 284 ≤ length s → HeldRule (rule_from s i)
slot_held s b i l =
    rule-held s b (slot_start i) 8 8 16 (record { tests = le_refl 8; assigns = le_refl 8; letters = le_refl 16; inside = l })

pub loaded_held : (s : List ℕ) → Bytes s → length s ≡ 9092 → HeldTable (table_from s)
unfolding table_from
loaded_held s b e =
    record {
      size = length-filled 32 no_rule (rule_from s) 32 (le_refl 32);
      rule = each-filled HeldRule 32 no_rule (rule_from s) 32 no_rule none-held (λ i h. slot_held s b i (omega arith));
    }
