pub mod Cutting
pub mod Places
pub mod Searching
pub mod Replacing
pub mod Letters
pub mod Stripping
