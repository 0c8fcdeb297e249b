-- What the contracts of `book_judge` cite; `BookJudgeInner` is for inner functions alone.
pub mod BookJudgeInner
pub mod Read
