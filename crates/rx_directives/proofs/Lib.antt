pub mod WordLemmas
pub mod Law
pub mod Lists
pub mod Places
pub mod Making
