-- What the contracts of `rule_sums` cite; `RuleSumsInner` is for inner functions alone.
pub mod RuleSumsInner
pub mod Sums
