pub mod Conversions
pub mod Digits
pub mod Kinds
