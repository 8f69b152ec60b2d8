-- The questions over a whole pool.
pub mod Beside
pub mod Titles
pub mod Shares
pub mod Moves
