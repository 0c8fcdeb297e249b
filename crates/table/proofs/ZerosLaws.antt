-- The bytes of an empty table are all zero.
use mathlib.Core.Path.{◌≡◌, refl}
use lib.ListN.{replicate}
use Rattle.little.specs.Bytes.{u16_bytes, u32_bytes, u64_bytes, i64_bytes}
use Rattle.little.specs.Joined.{joined}
use Rattle.rule_write.specs.Pieces.{test_bytes, tests_bytes, assign_bytes, assigns_bytes, name_bytes, head_bytes, rule_bytes}
use Rattle.table.specs.Table.{no_table}
use Rattle.table.specs.Memory.{table_bytes}

pub empty-zeros : table_bytes no_table ≡ replicate 9092 0
unfolding table_bytes joined rule_bytes head_bytes tests_bytes test_bytes assigns_bytes assign_bytes name_bytes u16_bytes u32_bytes u64_bytes i64_bytes
empty-zeros = refl
