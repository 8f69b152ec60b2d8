-- What holds of the program's texts.
pub mod NoCell
pub mod Told
pub mod Printed
pub mod Fits
pub mod Placing
pub mod JudgedComplaints
