-- The words of refusals, and the lines of a text.
pub mod Lines
pub mod Words
