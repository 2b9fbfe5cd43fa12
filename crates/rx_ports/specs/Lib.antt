pub mod Causes
pub mod Shelves
pub mod Sources
pub mod Sinks
pub mod MemorySinks
pub mod MemoryShelves
pub mod Streams
