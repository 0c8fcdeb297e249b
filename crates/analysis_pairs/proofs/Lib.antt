-- Laws that `analysis_pairs` stands on and passes on to other crates.
pub mod ClashingLaws
pub mod GrowingLaws
pub mod LentMasksLaws
pub mod RowsLaws
pub mod RuleMasksLaws
pub mod RulesLaws
pub mod SettleLaws
pub mod TurnedLaws
pub mod VerdictLaws
