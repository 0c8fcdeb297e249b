-- A row of masks, one every so many bytes.
use mathlib.Core.Path.{◌≡◌, ap}
use mathlib.Core.List.{List, ◌++◌}
use Prim.Native.Nat.{ℕ, ◌+◌, ◌-◌, ◌*◌, ◌<◌}
use lib.ListN.{replicate}
use Rattle.little.specs.Little.{u32_at}
use Rattle.rule.specs.Fill.{filled}
use Rattle.rule.proofs.FillLaws.{upto-same}
use Rattle.rule_read.specs.RuleReadInner.{column_in}

-- they are what is known of each
pub column-same : (s : List ℕ) (at step n : ℕ) (f : ℕ → ℕ) → ((i : ℕ) → i < n → u32_at s (at + step * i) ≡ f i)
    → column_in s at step n ≡ filled 32 0 f n
column-same s at step n f h =
    ap (λ (l : List ℕ). l ++ replicate (32 - n) 0) (upto-same n (λ i. u32_at s (at + step * i)) f h)
