-- That what stands behind refusals is so.
pub mod Naming
pub mod Spelling
pub mod Promise
