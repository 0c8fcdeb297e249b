-- Laws that `little` stands on and passes on to other crates.
pub mod BytesBackLaws
pub mod BytesLaws
pub mod JoinedLaws
pub mod PutLaws
pub mod StandsLaws
