-- What only contracts of inner functions of `table` cite.
use Rattle.std.specs.Prelude.{◌≡◌, Bool, cond, List, ℕ, ◌+◌, ◌*◌, ◌≤◌, ltb, length, get_or}
use Rattle.mask.specs.Search.{some}
use Rattle.rule.specs.declared.Rule.{Rule}
use Rattle.rule.specs.Fill.{filled}
use Rattle.rule.specs.Numbers.{not_zero}
use Rattle.rule_read.specs.Parts.{rule_of}
use Rattle.little.specs.Little.{byte_at}
use Rattle.table.specs.Table.{Table, rule_at}
use Rattle.refusal.specs.Answer.{Answer}
use Rattle.table.specs.Check.{answer, done, number_at, first_bad}

-- n and k are those of the image, and 3 does not refuse them
pub record Sizes (s : List ℕ) (n k : ℕ) : Type 0 where
  pub long : length s ≡ 9092
  pub rules : n ≡ byte_at s 1
  pub cells : k ≡ byte_at s 2
  pub few-rules : n ≤ 32
  pub few-cells : k ≤ 32

-- the first rule with a number
unfoldable pub judged : Table → Answer
judged t = cond (ltb (first_bad t) t.n) (answer (number_at t (first_bad t)) (first_bad t)) done

-- some byte is not 0
unfoldable pub any_set : List ℕ → Bool
any_set s = some (length s) (λ j. not_zero (get_or s j 0))

-- the row of the rules' watch masks
abbrev pub watches_of : Table → List ℕ
watches_of t = filled 32 0 (λ i. (rule_at t i).watch) t.n

-- where rule i stands, and the rule that stands there
abbrev pub slot_start : ℕ → ℕ
slot_start i = 4 + 284 * i

abbrev pub rule_from : List ℕ → ℕ → Rule
rule_from s i = rule_of s (slot_start i) 8 8 16
