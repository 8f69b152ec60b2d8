-- Laws of what is drawn of a log, event by event.
pub mod Widened
