-- What the contracts of `gwaunidor_report` cite.
pub mod ReportOut
