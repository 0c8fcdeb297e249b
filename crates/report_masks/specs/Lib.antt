-- What the contracts of `report_masks` cite: `ReportMasksInner` is for inner functions alone.
pub mod ReportMasksInner
