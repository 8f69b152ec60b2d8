-- The cases that document 01 works through.
pub mod Cases
