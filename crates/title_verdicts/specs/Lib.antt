-- What a title alone answers to an event.
pub mod Titled
