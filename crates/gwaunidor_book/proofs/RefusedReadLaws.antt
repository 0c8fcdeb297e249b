-- A refused read leaves a table of zeros.
use mathlib.Core.Path.{◌≡◌, ap, ◌∙◌}
use mathlib.Core.List.{List}
use Prim.Native.Nat.{ℕ}
use lib.ListN.{replicate}
use Rattle.table.specs.Memory.{table_bytes}
use Rattle.table.proofs.ZerosLaws.{empty-zeros}
use Rattle.book_judge.specs.Read.{read_of}
use Rattle.book_judge.proofs.AnswerLaws.{refused-empty}

pub read-zeros : (s : List ℕ) → ((read_of s).number ≡ 0 → ⊥) → table_bytes (read_of s).table ≡ replicate 9092 0
read-zeros s h = ap table_bytes (refused-empty s h) ∙ empty-zeros
