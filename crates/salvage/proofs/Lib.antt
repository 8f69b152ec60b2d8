-- What holds of the program's lines and blocks.
pub mod Seams
pub mod Walking
pub mod InBlocks
pub mod Passing
pub mod Ended
