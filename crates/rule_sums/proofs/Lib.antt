-- Laws that `rule_sums` stands on and passes on to other crates.
pub mod PenceLaws
