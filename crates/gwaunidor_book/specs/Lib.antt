-- What the contracts of `gwaunidor_book` cite.
pub mod BookOut
