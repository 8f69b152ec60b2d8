-- Which counts the sharing chooses (01, "Sharing"), and what the parts of the code promise to each other.
pub mod Choice
pub mod inner
