-- What holds of notices as rows.
pub mod Answered
pub mod Rows
pub mod Unique
pub mod Widths
