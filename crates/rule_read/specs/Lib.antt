-- What the contracts of `rule_read` cite; `RuleReadInner` is for inner functions alone.
pub mod Parts
pub mod RuleReadInner
