-- Laws of this crate's rows.
pub mod Filled
pub mod Asked
pub mod Unique
