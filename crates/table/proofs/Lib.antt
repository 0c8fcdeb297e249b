-- Laws that `table` stands on and passes on to other crates.
pub mod BeforeLaws
pub mod BodyStartsLaws
pub mod HoldsLaws
pub mod ImageLaws
pub mod MemoryLaws
pub mod SoundLaws
pub mod TableSlotLaws
pub mod TableTripLaws
pub mod ZerosLaws
