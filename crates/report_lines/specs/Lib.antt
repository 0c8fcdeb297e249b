-- What the contracts of `report_lines` cite; `ReportLinesInner` is for inner functions alone.
pub mod FourLines
pub mod Lines
pub mod ReportLinesInner
