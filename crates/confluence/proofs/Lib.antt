-- Laws that `confluence` stands on and passes on to other crates.
pub mod AnalysedLaws
pub mod DaysLaws
pub mod DemandLaws
pub mod MachineLaws
pub mod NightEndsLaws
pub mod OwnOrderLaws
