-- Text as the programs read and write it.
pub mod Texts
pub mod Output
pub mod Pages
pub mod Digits
pub mod Bytes
pub mod Numbers
pub mod Feed
