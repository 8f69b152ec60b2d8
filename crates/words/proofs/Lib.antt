-- Laws of the lines of a text.
pub mod Listed
