-- Laws of rows that are saved and loaded.
pub mod SameLayout
pub mod Small
pub mod Answered
pub mod SameAgent
pub mod SameRow
pub mod Whole
pub mod Sequence
pub mod InPlace
pub mod SeriesTaken
pub mod AfterLoading
pub mod Unique
