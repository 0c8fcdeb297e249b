-- What the contracts of `rule_check` cite, all of them inner.
pub mod RuleCheckInner
