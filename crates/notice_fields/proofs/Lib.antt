-- What holds of the fields of notices, each below what it uses.
pub mod Each
pub mod Table
pub mod Digits
pub mod Has
pub mod Stores
