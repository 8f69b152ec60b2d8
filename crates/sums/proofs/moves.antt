-- Of registers that are moved on by many bits at once.
pub mod Linear
pub mod Bits
