-- Laws that `graph` stands on and passes on to other crates.
pub mod GraphLaws
pub mod HaltsLaws
