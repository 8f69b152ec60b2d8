-- Laws of the calls on a row.
pub mod Rows
pub mod Cells
pub mod Heeded
pub mod Started
pub mod Listed
pub mod Follows
pub mod Whole
pub mod TakenNotice
pub mod Unique
