-- What a sharing of lanes answers and leaves (01, "Sharing"), and of the crates below what callers name.
pub mod Titles
pub mod Term
pub mod Choice
pub mod Verdict
pub mod Former
