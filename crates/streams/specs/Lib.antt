-- What a read gives.
pub mod Reads
