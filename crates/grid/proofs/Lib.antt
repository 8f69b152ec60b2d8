-- Laws of this crate's definitions, each file on those above it.
pub mod Numbers
pub mod Ticks
pub mod Channels
pub mod Lanes
pub mod Zeros
pub mod Carriers
pub mod Signed
pub mod Bounds
