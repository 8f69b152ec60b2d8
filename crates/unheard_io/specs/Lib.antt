-- What is said of notices that did not count.
pub mod Line
