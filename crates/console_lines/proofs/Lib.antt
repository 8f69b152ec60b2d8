-- Laws of reading a line, with what follows of its meaning.
pub mod Reading
pub mod Examples
pub mod Unique
pub mod Finished
pub mod Kept
pub mod Longest
pub mod Times
