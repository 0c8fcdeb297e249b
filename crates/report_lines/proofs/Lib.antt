-- Laws that `report_lines` stands on and passes on to other crates.
pub mod LinesLaws
pub mod LinesUniqueLaws
