-- Laws of the calls.
pub mod Taken
pub mod Settled
pub mod Unique
