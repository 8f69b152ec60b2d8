-- What a title within its limits has, and what its standing gives.
pub mod Stands
