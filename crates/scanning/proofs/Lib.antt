-- What holds of the steps of a scan.
pub mod Moves
pub mod ScanThrough
pub mod Stepping
pub mod Unique
