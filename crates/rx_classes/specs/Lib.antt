pub mod Natives
pub mod Classes
pub mod Orders
pub mod Lookup
pub mod Installing
pub mod Kept
pub mod Visits
