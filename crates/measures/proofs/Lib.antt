-- Laws of this crate's definitions.
pub mod Compared
pub mod Active
pub mod Within
