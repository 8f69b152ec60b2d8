-- What the wishes of a sharing are.
pub mod Wished
