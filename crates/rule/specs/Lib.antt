-- What the contracts of `rule` cite; `RuleInner` is for inner functions alone.
pub mod Codes
pub mod Empty
pub mod Fill
pub mod Numbers
pub mod RuleInner
pub mod Uses
