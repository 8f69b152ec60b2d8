-- The lines of the salvage's report (02, request 8): what is told at a seam, at the end, and of a whole log (`report_of`).
pub mod Lines
pub mod Report
