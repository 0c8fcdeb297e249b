-- The bytes of a table: "The contents come first, the bodies after."
use Rattle.std.specs.Prelude.{List, [], ◌∷◌, ◌++◌, ℕ}
use Rattle.little.specs.Bytes.{u16_bytes}
use Rattle.little.specs.Joined.{joined}
use Rattle.rule_write.specs.Pieces.{body_bytes}
use Rattle.table.specs.Table.{Table, rule_at}
use Rattle.table.specs.BodyStarts.{body_size, start_at}

-- "Byte 0: edition, 1. Byte 1: n, 0 to 32. Byte 2: k. Byte 3: 0."; "n entries of 4 bytes, start (16 bits) and length (16
-- bits)"; then the bodies
unfoldable pub book_of : Table → List ℕ
book_of t =
    let size : ℕ → ℕ = λ i. body_size (rule_at t i) in
    (1 ∷ t.n ∷ t.k ∷ 0 ∷ []) ++ joined t.n (λ i. u16_bytes (start_at t.n size i) ++ u16_bytes (size i))
    ++ joined t.n (λ i. body_bytes (rule_at t i))
