-- What the contracts of `analysis_weights` cite; `AnalysisWeightsInner` is for inner functions alone.
pub mod AnalysisWeightsInner
pub mod Weight
