-- The fields of notices: their table, and big-endian numbers.
pub mod Fields
pub mod Numbers
