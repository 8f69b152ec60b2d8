-- Of the row that is filled by runs: what is written into it, and which number stands in which place.
pub mod Written
pub mod Places
