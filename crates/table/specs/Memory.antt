-- A table in memory as 9,092 bytes: "byte 0 and byte 3 not looked at (callers set 0), byte 1 n, byte 2 k, then 32 rules
-- of 284 bytes each, laid out like a body with every slot present".
use Rattle.std.specs.Prelude.{◌≡◌, List, [], ◌∷◌, ◌++◌, ℕ, ◌+◌, ◌*◌, ◌<◌, length}
use Rattle.little.specs.Little.{byte_at}
use Rattle.little.specs.Joined.{joined}
use Rattle.rule.specs.Fill.{upto}
use Rattle.rule_read.specs.Parts.{rule_of}
use Rattle.rule_write.specs.Pieces.{rule_bytes}
use Rattle.rule_write.specs.HeldRule.{HeldRule}
use Rattle.table.specs.Table.{Table, rule_at}

-- the table that the bytes hold: a slot has 12 + 8 x 12 + 8 x 20 + 16 = 284 bytes
unfoldable pub table_from : List ℕ → Table
table_from s = record { n = byte_at s 1; k = byte_at s 2; rules = upto 32 (λ i. rule_of s (4 + 284 * i) 8 8 16) }

-- the bytes of a table
unfoldable pub table_bytes : Table → List ℕ
table_bytes t = (0 ∷ t.n ∷ t.k ∷ 0 ∷ []) ++ joined 32 (λ i. rule_bytes (rule_at t i) 8 8 16)

-- a table as memory holds it: 32 rules, each as memory holds it
pub record HeldTable (t : Table) : Type 0 where
  pub size : length t.rules ≡ 32
  pub rule : (i : ℕ) → i < 32 → HeldRule (rule_at t i)
