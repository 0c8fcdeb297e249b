-- Laws that `book_trips` stands on and passes on to other crates.
pub mod BookTripLaws
pub mod ReadWriteLaws
pub mod WriteReadLaws
