-- Laws that `analysis_marks` passes on to other crates.
pub mod IndexLaws
pub mod MarkedLaws
pub mod MarkingLaws
