-- Which notices of a log did not count, and how the code goes through the log.
pub mod Unheard
pub mod inner
