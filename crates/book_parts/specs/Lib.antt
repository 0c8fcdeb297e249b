-- What the contracts of `book_parts` cite, all of them inner.
pub mod BookPartsInner
