-- Laws of what is drawn, notice by notice.
pub mod Threaded
pub mod Heard
pub mod Going
