-- Laws of this crate's definitions.
pub mod Search
pub mod Tests
pub mod Refusals
pub mod Told
pub mod Former
