-- What the contracts of `mask` cite; `MaskInner` is for inner functions alone.
pub mod Search
pub mod First
pub mod Mask
pub mod MaskInner
