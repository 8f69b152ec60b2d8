-- What is said of a log.
pub mod Line
