-- What holds of a notice's fields in bytes.
pub mod Laid
pub mod Whole
pub mod Decided
pub mod Beginnings
