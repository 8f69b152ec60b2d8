-- What the planner's code rests on, and what is promised of its list.
pub mod Kept
pub mod Steps
pub mod Answers
pub mod Running
pub mod Lists
pub mod Unique
pub mod Accepted
pub mod DueChanges
pub mod WishesLeft
pub mod Passed
pub mod Carried
pub mod Goals
pub mod Started
pub mod Promise
pub mod Example
