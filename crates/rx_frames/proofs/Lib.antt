pub mod ActivityLemmas
pub mod FoundLemmas
pub mod RunLemmas
