-- What the contracts of `rule_write` cite.
pub mod HeldRule
pub mod Pieces
pub mod RuleWriteInner
