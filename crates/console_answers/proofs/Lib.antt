-- Laws of rows that are written, of a row that stands behind an answer, and of help. That two outcomes of a call here are equal is
-- `puts_one_outcome` of `text`.
pub mod Rows
pub mod Answered
pub mod Usages
pub mod Examples
