-- A row of records as bytes: 16 for each, its four masks one after another.
use Rattle.std.specs.Prelude.{List, ℕ, ◌+◌, ◌*◌, ◌/◌, length}
use Rattle.little.specs.Little.{u32_at}
use Rattle.rule.specs.Fill.{upto}
use Rattle.editor.specs.declared.Record.{Record}

-- the record at bytes 16 i
abbrev pub record_in : List ℕ → ℕ → Record
record_in s i =
    let mask : ℕ → ℕ = λ at. u32_at s (16 * i + at) in
    record { watch = mask 0; reads = mask 4; writes = mask 8; precedes = mask 12 }

-- the whole records of the bytes; what is left over is not looked at
abbrev pub rows_in : List ℕ → List Record
rows_in s = upto (length s / 16) (record_in s)
