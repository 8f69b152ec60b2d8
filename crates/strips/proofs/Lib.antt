-- Laws of places across the picture, of stretches, and of marks that are new in their row.
pub mod Scales
pub mod Stretched
pub mod Marked
pub mod Laned
