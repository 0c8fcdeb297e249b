-- Laws that `book_write` stands on and passes on to other crates.
pub mod BookLaws
pub mod WriteLaws
