-- Laws of pages, digits and hexadecimal, of runs, spelt numbers and tables, and of a buffer whose bytes move.
pub mod Pages
pub mod Printing
pub mod Hex
pub mod Runs
pub mod Spelling
pub mod Tables
pub mod Moving
pub mod Unique
