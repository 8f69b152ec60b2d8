-- What programs over files write, and whether two texts are the same.
pub mod Lines
pub mod Texts
