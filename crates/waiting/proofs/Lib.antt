-- What the code's way through a log comes to, and two logs that differ in an order alone.
pub mod Answers
pub mod Counting
pub mod Reading
pub mod Telling
pub mod Unopened
pub mod Unique
pub mod OneMoment
