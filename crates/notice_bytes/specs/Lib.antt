-- A notice's fields in bytes: when they stand, how they are laid, and which places a window of a log decides.
pub mod Standing
pub mod Laying
pub mod Window
