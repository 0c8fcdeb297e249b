-- Laws that `rule` stands on and passes on to other crates.
pub mod CellsBelowLaws
pub mod FillLaws
pub mod NumbersLaws
