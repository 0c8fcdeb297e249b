-- Laws that `mask` stands on and passes on to other crates.
pub mod AnyLaws
pub mod BitsLaws
pub mod CountsLaws
pub mod FirstLaws
pub mod LoopsLaws
pub mod MaskBelowLaws
pub mod MaskLaws
pub mod SearchLaws
