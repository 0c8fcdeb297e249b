-- Laws that `analysis_masks` stands on and passes on to other crates.
pub mod AlikeLaws
pub mod BoundLaws
pub mod ClearedLaws
pub mod FoundLaws
pub mod ReportLaws
pub mod ReportingLaws
pub mod SidesLaws
