-- Laws of the head-end's desk: each test on a line says which case of the definitions it is.
pub mod FirstWord
pub mod Taking
pub mod Keeping
pub mod Replying
pub mod Room
pub mod Journal
pub mod Example
pub mod Unique
