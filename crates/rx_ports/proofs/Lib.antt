pub mod Entries
pub mod Transfers
