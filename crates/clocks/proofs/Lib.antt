-- Laws of written times and of their reading, that what is written reads back, examples, and that outcomes are one.
pub mod Colons
pub mod Forms
pub mod Writing
pub mod Hours
pub mod Back
pub mod Examples
pub mod Unique
