-- What is asked of a title before its owed ticks are read, and of which tick a lane shows the cell.
pub mod Owing
pub mod Shown
