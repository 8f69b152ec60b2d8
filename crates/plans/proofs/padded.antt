-- Of the plan of a padded title's box.
pub mod Refusals
pub mod Places
pub mod Channels
pub mod Row
