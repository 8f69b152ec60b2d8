-- What the program writes beside its lines.
pub mod Complaints
