-- What the runs against published figures compute.
pub mod Holding
pub mod Rows
pub mod Segments
pub mod Steady
pub mod Times
pub mod Transitions
