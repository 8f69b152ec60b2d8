-- Laws of places across a picture, and of its hatchings.
pub mod Parts
pub mod Hatches
