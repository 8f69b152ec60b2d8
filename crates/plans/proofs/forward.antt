-- Of the plan of a skip-forward title's box.
pub mod Refusals
pub mod Places
pub mod Lanes
pub mod Row
pub mod Worked
