-- What the contracts of `little` cite.
pub mod Bytes
pub mod EachByte
pub mod Joined
pub mod Little
pub mod Put
