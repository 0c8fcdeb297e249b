-- Laws that `editor` stands on and passes on to other crates.
pub mod CopyingLaws
pub mod EditorRowsLaws
pub mod OwnRowsLaws
pub mod RowsInLaws
