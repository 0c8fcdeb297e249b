-- Laws that `book_parts` stands on and passes on to other crates.
pub mod BodyWriteLaws
pub mod PartsLaws
