-- What the contracts of `machine_spec` cite.
pub mod Run
pub mod State
pub mod Step
