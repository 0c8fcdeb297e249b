-- Laws that `book_judge` stands on and passes on to other crates.
pub mod AnswerLaws
pub mod InsideLaws
pub mod JudgeLaws
pub mod ReadLaws
