-- Of the counts that the sharing gives.
pub mod Laws
