-- What the planner gave and where it stands, and that a printed change is read as the change that it was printed for.
pub mod Listed
pub mod Printed
pub mod Words
pub mod Entering
pub mod Balanced
