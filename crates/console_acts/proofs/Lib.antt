-- Laws of lines that act: each test on a line says which case of the definitions it is.
pub mod Following
pub mod Missing
pub mod Written
