-- Who shares a pool, and the rows of the sharing (02, 11 and 12).
pub mod Sharers
pub mod Rows
