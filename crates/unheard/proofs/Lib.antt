-- What the code's count of a log comes to, that what counts and what does not are all notices, and which is the first that does not.
pub mod Counting
pub mod Answers
pub mod Counts
pub mod First
pub mod Unique
