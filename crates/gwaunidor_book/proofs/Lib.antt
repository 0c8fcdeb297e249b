-- Laws that `gwaunidor_book` passes on to readers.
pub mod RefusedReadLaws
