-- What only contracts of inner functions cite.
use Rattle.std.specs.Prelude.{List, ℕ}
use Rattle.rule.specs.declared.Rule.{Rule}
use Rattle.rule_write.specs.Pieces.{rule_bytes}

-- a whole slot
abbrev pub slot_bytes : Rule → List ℕ
slot_bytes r = rule_bytes r 8 8 16
