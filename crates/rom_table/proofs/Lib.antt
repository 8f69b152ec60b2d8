-- Laws of the table of the small box.
pub mod Entries
pub mod OwnNumbers
pub mod Unique
