-- The titles among which lanes are shared, and a title's part of the sum (01, "Sharing"; 02, request 2).
pub mod Titles
pub mod Term
pub mod inner
