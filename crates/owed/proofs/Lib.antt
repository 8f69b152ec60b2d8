-- Laws of titles that are changed and closed, and of what their boxes want.
pub mod Fixed
pub mod Shown
pub mod Nth
