-- Laws of where bands lie, and of times.
pub mod Tops
pub mod Across
