-- Laws that `report_text` stands on and passes on to other crates.
pub mod AddedLaws
pub mod ValueLaws
