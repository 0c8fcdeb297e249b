-- Laws that `machine_spec` stands on and passes on to other crates.
pub mod AmountsInRangeLaws
pub mod EffectLaws
pub mod EligibleLaws
pub mod HeldBackLaws
pub mod KeptLaws
pub mod NightStepsLaws
pub mod PostLaws
pub mod RunLaws
pub mod StateLaws
pub mod StepLaws
