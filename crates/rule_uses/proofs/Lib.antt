-- Laws that `rule_uses` stands on and passes on to other crates.
pub mod UsesLaws
