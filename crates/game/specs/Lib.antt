-- What the contracts of `game` cite; `GameInner` is for inner functions alone.
pub mod GameInner
pub mod LentState
