-- Of the four rows and their titles.
pub mod Laws
