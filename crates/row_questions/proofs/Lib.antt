-- Laws of rows that are filled from their front, and of questions of a lent row.
pub mod Filling
pub mod Asking
pub mod Unique
