pub mod ReachLemmas
pub mod StringLemmas
pub mod HeapLemmas
pub mod PlaceLemmas
pub mod FoundLemmas
pub mod MethodLemmas
pub mod DirectoryLemmas
pub mod NameLemmas
