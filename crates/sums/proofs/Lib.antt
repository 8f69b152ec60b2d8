-- That the registers of parts make up that of the whole, that a sum fits 32 bits, that one byte changed changes it, and that the call's contract settles it.
pub mod OneByte
pub mod Parted
pub mod Small
pub mod Unique
