-- What the contracts of `layout_state` cite.
pub mod States
