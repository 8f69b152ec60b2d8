-- What holds of a scan.
pub mod Parts
pub mod Laying
pub mod Rooms
pub mod Pieces
pub mod Tails
pub mod Example
pub mod Kept
pub mod Unique
