-- What the contracts of `analysis_marks` cite; `AnalysisMarksInner` is for inner functions alone.
pub mod AnalysisMarksInner
pub mod Index
pub mod Marks
