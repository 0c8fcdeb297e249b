-- What the contracts of `editor_check` cite; `EditorCheckInner` is for inner functions alone.
pub mod EditorCheckInner
pub mod RowNumbers
