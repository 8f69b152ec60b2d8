-- What the program reads and writes.
pub mod Lines
pub mod Places
pub mod Complaints
pub mod inner
