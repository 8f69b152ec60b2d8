-- What holds of the report's lines.
pub mod LinesFit
pub mod Saying
pub mod Unique
