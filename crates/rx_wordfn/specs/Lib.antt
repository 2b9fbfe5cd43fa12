pub mod Functions
pub mod Lines
pub mod Words
