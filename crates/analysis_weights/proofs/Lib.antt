-- Laws that `analysis_weights` stands on and passes on to other crates.
pub mod EquationLaws
pub mod SumsLaws
pub mod WeighingLaws
pub mod WeightLaws
