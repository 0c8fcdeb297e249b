-- The books, what a case says, and the table of cases.
pub mod Books
pub mod Case
pub mod Cases
