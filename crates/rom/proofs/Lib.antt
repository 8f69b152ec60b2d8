-- Laws of the small box, each file on those above it.
pub mod Showing
pub mod Noted
pub mod Planned
pub mod Answered
pub mod Unique
