-- What a box asks.
pub mod Small
pub mod Lanes
pub mod Plan
