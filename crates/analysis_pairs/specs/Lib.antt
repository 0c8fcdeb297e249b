-- What the contracts of `analysis_pairs` cite; `AnalysisPairsInner` is for inner functions alone.
pub mod AnalysisPairsInner
pub mod RuleMasks
pub mod Rules
