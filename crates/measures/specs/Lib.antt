-- What a title's numbers are known to be once its state is within the limits.
pub mod Readable
