-- Laws by which the figures' functions meet their contracts.
pub mod Found
pub mod Sent
pub mod Filling
pub mod Told
