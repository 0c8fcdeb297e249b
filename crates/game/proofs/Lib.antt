-- Laws that `game` stands on and passes on to other crates.
pub mod DeterminedLaws
pub mod LoopLaws
