-- Laws of the moments of changes, each file on those above it.
pub mod Earliest
pub mod Permitted
pub mod Falling
pub mod Released
pub mod Due
pub mod Coming
