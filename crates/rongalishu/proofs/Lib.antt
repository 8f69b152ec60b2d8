-- Laws of result rows, and that each call's contract settles its outcome.
pub mod Entered
pub mod Told
pub mod Unique
