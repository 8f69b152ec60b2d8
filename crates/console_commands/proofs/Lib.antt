-- Laws of the table of commands, and of words in either case.
pub mod Rows
pub mod Cases
