-- That what the code finds is what a life says of a record, and what holds of results.
pub mod Walked
pub mod Found
pub mod Told
pub mod Lives
pub mod Laws
pub mod Plays
pub mod MoreShown
