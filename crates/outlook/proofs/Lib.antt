-- Laws of times at which an event is refused, what is promised of the answers, and that each call has one outcome.
pub mod Skipped
pub mod Starting
pub mod Rooms
pub mod Freed
pub mod Cleared
pub mod Tried
pub mod Unique
pub mod Foreseen
pub mod ForeseenReached
pub mod Example
