-- Laws that `rule_write` stands on and passes on to other crates.
pub mod HeldLaws
pub mod HeldRuleLaws
pub mod LengthsLaws
pub mod ReadBackLaws
pub mod RowsBytesLaws
pub mod SlotsLaws
pub mod WriteBackLaws
