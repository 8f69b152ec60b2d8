-- Of the refusals.
pub mod Laws
