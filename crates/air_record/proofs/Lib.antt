-- What holds of reading a record's text.
pub mod Reading
pub mod Example
