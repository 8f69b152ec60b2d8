-- Laws of the refusals' order and of the next states.
pub mod Event
