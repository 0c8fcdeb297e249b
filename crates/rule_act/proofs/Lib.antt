-- Laws that `rule_act` stands on and passes on to other crates.
pub mod ActSlotLaws
pub mod ActsLaws
pub mod AmountsLaws
pub mod InRangeLaws
