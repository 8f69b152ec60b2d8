-- Laws of what a box asked and where its answer stands, and that its refusals say what is so.
pub mod Answered
pub mod Reasons
