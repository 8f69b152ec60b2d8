-- Of a title's part of the sum.
pub mod Laws
