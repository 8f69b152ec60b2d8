-- The notices of document 01: the bytes of a notice, what bytes read as, logs, and of the crates below what callers name.
pub mod Fields
pub mod Numbers
pub mod Encode
pub mod Decode
pub mod Log
pub mod Window
