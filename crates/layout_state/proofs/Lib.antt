-- Laws that `layout_state` stands on and passes on to other crates.
pub mod StatesLaws
