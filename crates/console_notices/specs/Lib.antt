-- Notices on the console, read and written.
pub mod Hex
pub mod Reading
pub mod inner
