-- Laws of how a log is seen, of a picture that has room, and of the curve under the line of the pool.
pub mod Viewed
pub mod Fitting
pub mod Pool
pub mod Ended
