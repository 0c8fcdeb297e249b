-- What the contracts of `editor` cite; `EditorInner` is for inner functions alone.
pub mod EditorInner
pub mod OwnRows
pub mod Rows
pub mod RowsIn
