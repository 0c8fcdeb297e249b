-- What the contracts of `table` cite; `TableInner` is for inner functions alone.
pub mod BodyStarts
pub mod Check
pub mod Memory
pub mod Table
pub mod TableInner
