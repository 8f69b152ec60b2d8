-- Which changes the sharing of a pool asks for (02, 11 and 12).
pub mod Wishes
pub mod Shares
pub mod Passes
