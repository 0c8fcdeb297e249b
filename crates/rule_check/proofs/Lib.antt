-- Laws that `rule_check` stands on and passes on to other crates.
pub mod FieldsInLaws
pub mod NamesLaws
pub mod NumberWithLaws
