pub mod NameLemmas
pub mod OrderLemmas
pub mod WaitingLemmas
pub mod StateLemmas
pub mod NextLemmas
