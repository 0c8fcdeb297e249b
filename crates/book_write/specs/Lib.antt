-- What the contracts of `book_write` cite.
pub mod Book
pub mod Write
