-- Laws of the picture's folds, of its numbers, and that no mark of a cell that is taken in time lies past the line.
pub mod Folds
pub mod Sizes
pub mod Line
