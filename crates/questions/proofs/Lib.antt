-- Laws of questions that are answered.
pub mod Asked
pub mod Lane
