-- Laws that `cases` stands on and passes on to other crates.
pub mod CasesLaws
pub mod ComputeLaws
pub mod ComputedLaws
pub mod JudgedLaws
pub mod SheetsLaws
pub mod StairsLaws
pub mod ToldLaws
pub mod WorkedLaws
pub mod WrittenLaws
