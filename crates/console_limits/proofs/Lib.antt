-- Laws of the limits that lines name, and that what is said of them is so.
pub mod Tables
pub mod Naming
pub mod Silent
pub mod Examples
