-- What the contracts of `gwaunidor_run` cite.
pub mod RunOut
