-- A table and its bytes, both ways: storing and loading give back what went in.
use mathlib.Core.Path.{◌≡◌, refl, sym, ◌∙◌}
use mathlib.Core.List.{List, [], ◌∷◌}
use Prim.Native.Nat.{ℕ, ◌+◌, ◌≤◌}
use native.Mathlib.Nat.{le_refl}
use native.Mathlib.Omega.{arith}
use lib.ListN.{length}
use Rattle.little.specs.Little.{byte_at}
use Rattle.little.proofs.StandsLaws.{Stands, stands_self, stands-right, stands_4, stands_then, stands-whole}
use Rattle.little.specs.EachByte.{Bytes}
use Rattle.rule.specs.declared.Rule.{Rule}
use Rattle.rule.specs.Empty.{no_rule}
use Rattle.rule_read.specs.Parts.{rule_of}
use Rattle.rule_write.specs.RuleWriteInner.{slot_bytes}
use Rattle.rule_write.proofs.LengthsLaws.{length-rule}
use Rattle.rule_write.proofs.HeldRuleLaws.{EmptyPast}
use Rattle.rule_write.proofs.RowsBytesLaws.{rows-read, rows_stand}
use Rattle.rule_write.proofs.ReadBackLaws.{rule-read}
use Rattle.rule_write.proofs.WriteBackLaws.{rule-stands}
use Rattle.table.specs.Table.{Table, rule_at}
use Rattle.table.specs.Memory.{table_from, table_bytes, HeldTable}
use Rattle.table.proofs.MemoryLaws.{rules_bytes, length-table}

-- a slot has room for all
pub none-past : (r : Rule) → EmptyPast r 8 8 16
none-past r =
    record {
      test = λ j l h. absurd (omega arith);
      assign = λ j l h. absurd (omega arith);
      letter = λ j l h. absurd (omega arith);
    }

length-slot : (r : Rule) → length (slot_bytes r) ≡ 284
length-slot r = length-rule r 8 8 16

abbrev slot_in : List ℕ → ℕ → Rule
slot_in s i = rule_of s i 8 8 16

-- a table stored and loaded is the same table
pub stored_loaded : (t : Table) → HeldTable t → table_from (table_bytes t) ≡ t
unfolding table_from table_bytes
stored_loaded t held = λ i. record { n = t.n; k = t.k; rules = rules i }
  where
    s : List ℕ
    s = table_bytes t

    stands : Stands s 4 (rules_bytes t.rules 32)
    stands = stands-right s 0 (0 ∷ t.n ∷ t.k ∷ 0 ∷ []) (rules_bytes t.rules 32) (stands_self s)

    rules : (table_from s).rules ≡ t.rules
    rules =
        rows-read s 32 284 no_rule slot_bytes (slot_in s) length-slot 4 32 t.rules (le_refl 32) held.size
        (λ j l p.
        rule-read s p (rule_at t j) 8 8 16 (le_refl 8) (le_refl 8) (le_refl 16) (held.rule j l) (none-past (rule_at t j)))
        (λ j l h. absurd (omega arith))
        stands

-- a table's bytes loaded and stored are the same bytes, where bytes 0 and 3 are 0
pub loaded_stored : (s : List ℕ) → Bytes s → length s ≡ 9092 → byte_at s 0 ≡ 0 → byte_at s 3 ≡ 0 → table_bytes (table_from s) ≡ s
unfolding table_from table_bytes
loaded_stored s b size first fourth =
    sym (stands-whole s (table_bytes (table_from s)) whole (size ∙ sym (length-table (table_from s))))
  where
    head : Stands s 0 (0 ∷ byte_at s 1 ∷ byte_at s 2 ∷ 0 ∷ [])
    head = stands_4 s 0 0 (byte_at s 1) (byte_at s 2) 0 (omega arith) first refl refl fourth

    slot : (i : ℕ) → i + 284 ≤ length s → Stands s i (slot_bytes (slot_in s i))
    slot i l = rule-stands s b i 8 8 16 (record { tests = le_refl 8; assigns = le_refl 8; letters = le_refl 16; inside = l })

    rules : Stands s 4 (rules_bytes (table_from s).rules 32)
    rules = rows_stand s 32 284 no_rule slot_bytes (slot_in s) length-slot slot 4 32 (omega arith)

    whole : Stands s 0 (table_bytes (table_from s))
    whole = stands_then s 0 (0 ∷ byte_at s 1 ∷ byte_at s 2 ∷ 0 ∷ []) (rules_bytes (table_from s).rules 32) 4 refl head rules
