-- Laws of a row of records, and that the call over it has one outcome.
pub mod Rows
pub mod Unique
