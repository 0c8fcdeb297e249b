-- Laws that `editor_check` stands on.
pub mod FirstBeyondLaws
