-- Laws that `report_masks` stands on and passes on to other crates.
pub mod BodyMasksLaws
