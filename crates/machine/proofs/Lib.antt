-- Laws that `machine` stands on.
pub mod CallsLaws
