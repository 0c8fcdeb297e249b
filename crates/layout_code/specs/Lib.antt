-- What the contracts of `layout_code` cite.
pub mod Code
