-- What a log that is played read by read comes to, and what is kept of one title's own events.
pub mod Reading
pub mod Own
pub mod Lives
