-- The earliest moment at which a title can change to a count (02, 11), and what the searches for it find.
pub mod Moments
pub mod Searched
pub mod inner
