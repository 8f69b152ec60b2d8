-- What the program reads and writes.
pub mod Arrivals
pub mod Lines
pub mod Complaints
