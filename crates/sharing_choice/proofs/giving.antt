-- Of lanes given one at a time.
pub mod Laws
