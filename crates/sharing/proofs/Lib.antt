-- What callers may rely on.
pub mod Search
pub mod Promise
pub mod WhichWay
pub mod Unique
