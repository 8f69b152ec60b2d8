-- That every picture of a box fits into the program's room.
pub mod Fits
