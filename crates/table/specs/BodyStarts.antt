-- How long the bodies of a book are, and where they start: for the reader and for the writer.
use Rattle.std.specs.Prelude.{ℕ, zero, suc, ◌+◌, ◌*◌}
use Rattle.rule.specs.declared.Rule.{Rule}

-- "Its length is 12 + 12t + 20a + m."
abbrev pub body_size : Rule → ℕ
body_size r = 12 + 12 * r.t + 20 * r.a + r.m

-- "The first start is 4 + 4n. Each next start is the previous start plus the previous length.": of n bodies with these
-- lengths, the start of body i
unfoldable pub start_at : ℕ → (ℕ → ℕ) → ℕ → ℕ
start_at n size zero = 4 + 4 * n
start_at n size (suc i) = start_at n size i + size i
