pub mod Tables
pub mod Names
pub mod Discarded
pub mod Variables
