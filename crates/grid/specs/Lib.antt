-- Cells, slots, channels and lanes, as document 01 and source 000 give them.
pub mod Ticks
pub mod Channels
pub mod Lanes
pub mod Lifted
pub mod Bounds
