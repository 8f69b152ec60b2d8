-- The laws on which the proofs of the functions rest, a file to a subject, each above what it cites.
pub mod Order
pub mod Search
mod Sums
pub mod Exchange
