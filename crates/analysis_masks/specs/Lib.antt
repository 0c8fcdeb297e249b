-- What the contracts of `analysis_masks` cite; `AnalysisMasksInner` is for inner functions alone.
pub mod AnalysisMasksInner
pub mod Bound
pub mod Cleared
pub mod Found
pub mod Report
