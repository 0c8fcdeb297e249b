-- What the contracts of `report_text` cite; `ReportTextInner` is for inner functions alone.
pub mod ReportTextInner
pub mod Text
