-- Laws of an agent's row.
pub mod Inverse
pub mod Laid
pub mod Tested
pub mod Lanes
