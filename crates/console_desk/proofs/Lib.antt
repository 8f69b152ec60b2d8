-- Laws of the desk: that what stands behind a refusal is so, what a page leaves in its row, and that a call has one outcome.
pub mod Spelt
pub mod Silent
pub mod Ended
pub mod Unique
