-- Laws that `gwaunidor_report` passes on to readers.
pub mod CrossesLaws
pub mod RefusedReportLaws
