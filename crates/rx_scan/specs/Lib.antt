pub mod Reader
pub mod Read
pub mod Depth
pub mod Scanned
