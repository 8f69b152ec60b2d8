-- Laws of the first place that shows a cell, of counts of cells kept, and of their peak.
pub mod Places
pub mod Peaks
