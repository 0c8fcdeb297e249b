-- What the contracts of `layout_report` cite.
pub mod Layout
pub mod LayoutReportInner
