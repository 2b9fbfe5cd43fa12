pub mod Families
pub mod Operators
pub mod Numbers
