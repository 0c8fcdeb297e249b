-- What only contracts of inner functions of `rule_read` cite.
use Rattle.std.specs.Prelude.{◌≡◌, List, ℕ, ◌+◌, ◌*◌, ◌≤◌, ◌<◌, length}
use Rattle.little.specs.Little.{byte_at, u32_at}
use Rattle.rule.specs.Fill.{filled}
use Rattle.rule_read.specs.declared.Counts.{Counts}

-- n masks, the first at `at`, each next one `step` bytes on
abbrev pub column_in : List ℕ → ℕ → ℕ → ℕ → List ℕ
column_in s at step n = filled 32 0 (λ i. u32_at s (at + step * i)) n

-- the counts that stand in the head of the rule at i; a byte is below 256
pub record CountsAt (s : List ℕ) (i : ℕ) (c : Counts) : Type 0 where
  pub tests : c.tests ≡ byte_at s (i + 8)
  pub assigns : c.assigns ≡ byte_at s (i + 9)
  pub letters : c.letters ≡ byte_at s (i + 10)
  pub few-tests : c.tests < 256
  pub few-assigns : c.assigns < 256
  pub few-letters : c.letters < 256

-- the bytes have room at i for a rule of t tests, a assignments and m letters
pub record Room (s : List ℕ) (i t a m : ℕ) : Type 0 where
  pub tests : t ≤ 8
  pub assigns : a ≤ 8
  pub letters : m ≤ 16
  pub inside : i + (12 + 12 * t + 20 * a + m) ≤ length s
