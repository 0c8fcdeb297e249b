-- Laws that `gwaunidor_run` passes on to readers.
pub mod UntouchedLaws
