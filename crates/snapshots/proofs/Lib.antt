-- What holds of snapshots.
pub mod Answered
pub mod ComesBack
pub mod Laying
pub mod Numbers
pub mod Unique
