-- Laws of the bytes that a line spells, of the notice that it writes and of the text of one that it reads.
pub mod Spelling
pub mod Written
pub mod Parts
