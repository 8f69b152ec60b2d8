-- What holds of the listing's steps.
pub mod Stepping
pub mod LinesFit
pub mod StepPlaces
pub mod Decided
pub mod WholeLog
pub mod RunEnds
pub mod Held
pub mod Unique
