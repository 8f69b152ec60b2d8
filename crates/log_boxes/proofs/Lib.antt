-- Laws of a box's beginning and of its rooms, that its cells are taken in time, and that outcomes are one.
pub mod Rows
pub mod Standing
pub mod Beginnings
pub mod Texts
pub mod InTime
pub mod Unique
