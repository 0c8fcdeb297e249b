-- What the contracts of `book_read` cite.
pub mod Spread
