-- What the code's way through a log comes to; our own lane answers starve nobody; two logs that differ in an order alone.
pub mod Ticks
pub mod Hearing
pub mod Marking
pub mod Reading
pub mod Answers
pub mod RefusalReasons
pub mod Calls
pub mod Unique
pub mod OwnAnswers
pub mod OwnCells
pub mod OwnRecord
pub mod Starves
pub mod Accepted
pub mod MoreShown
pub mod OneMoment
pub mod Example
