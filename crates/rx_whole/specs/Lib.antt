pub mod Digits
pub mod Number
pub mod Numeral
pub mod Arithmetic
