-- What the contracts of `rule_act` cite; `RuleActInner` is for inner functions alone.
pub mod Amounts
pub mod RuleActInner
