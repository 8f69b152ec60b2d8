-- Parts of the limits of stored numbers.
pub mod Stored
