pub mod WordLemmas
pub mod LineLemmas
pub mod FeedLemmas
pub mod PickLemmas
pub mod CourseLemmas
pub mod Plays
pub mod Loads
pub mod Endings
