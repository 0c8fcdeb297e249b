-- Laws that `analysis` stands on and passes on to other crates.
pub mod SaysLaws
pub mod SetsLaws
pub mod TableMasksLaws
