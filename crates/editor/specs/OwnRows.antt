-- The rules of a table as records of the editor's row.
use Rattle.std.specs.Prelude.{List, ℕ}
use Rattle.mask.specs.Mask.{mask_of}
use Rattle.rule.specs.Fill.{upto}
use Rattle.rule.specs.Uses.{reads, writes}
use Rattle.table.specs.Table.{Table, rule_at}
use Rattle.editor.specs.declared.Record.{Record}

-- rule i as a record
abbrev pub record_of : Table → ℕ → Record
record_of t i =
    let r = rule_at t i in
    record { watch = r.watch; reads = mask_of 32 (reads r); writes = mask_of 32 (writes r); precedes = r.precedes }

-- the row of a table's own records
abbrev pub rows_of : Table → List Record
rows_of t = upto t.n (record_of t)
