-- What holds of the program's texts.
pub mod Taking
pub mod Mean
