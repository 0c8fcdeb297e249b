-- Laws that `book_read` stands on.
pub mod SpreadLaws
