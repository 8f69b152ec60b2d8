-- What is asked of the rows of status.
pub mod Rows
