-- What the titles that share a pool are, and their rows.
pub mod All
pub mod Ids
pub mod Sharers
