-- Laws that `machine_run` stands on and passes on to other crates.
pub mod RunsLaws
