-- Laws that `rule_read` stands on and passes on to other crates.
pub mod ColumnLaws
pub mod NameReadLaws
