pub mod Words
pub mod Marks
pub mod Reader
pub mod Forms
pub mod Reads
pub mod Laws
pub mod Parsed
