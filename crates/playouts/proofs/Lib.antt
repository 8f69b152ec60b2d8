-- What the code's way through a log comes to, and what `air` makes of the text.
pub mod Laid
pub mod Filling
pub mod Settled
pub mod OwnNumbers
pub mod Numbers
pub mod Printed
pub mod Answers
pub mod Fits
pub mod ReadBack
pub mod AirReads
pub mod Rest
pub mod Unique
