-- Laws that `machine_step` stands on and passes on to other crates.
pub mod TurnLaws
