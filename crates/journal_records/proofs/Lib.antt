-- What holds of the bytes of a journal.
pub mod Standing
pub mod Laid
pub mod HeaderLaid
pub mod HeaderBack
pub mod RoundTrip
pub mod OneByte
pub mod Windows
pub mod Cutting
pub mod Unique
